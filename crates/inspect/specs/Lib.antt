-- What the first bytes of an input say of all of it.
pub mod Front
