-- One round through the centre makes its servers alike, and what can be refused in it.
pub mod Moments
pub mod Premises
pub mod OneRound
pub mod Calls
pub mod Refused
pub mod Second
