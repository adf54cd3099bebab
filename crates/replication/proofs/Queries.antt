-- The calls that write nothing: the walker, winner, learned, a store's own knowledge and coverage.
pub mod Walk
pub mod Winner
pub mod Knowledge
pub mod Coverage
pub mod Nearest
pub mod Settled
