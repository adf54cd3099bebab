-- A buffer that is long enough, a round through the centre and how far coverage moves, as definitions.
pub mod Room
pub mod Round
pub mod RoundCalls
pub mod Jump
