-- The method of raising a tick in a copy.
pub mod MethodRaised
