-- The laws that comparing is proved by.
pub mod HowFar
pub mod Calls
