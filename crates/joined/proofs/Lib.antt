-- The C functions make the calls of a list, and demand 3, and a round through the centre, hold of the bytes that a program keeps.
pub mod Steps
pub mod OnCode
pub mod Every
pub mod Consumed
pub mod RoundOnCode
pub mod Contracts
