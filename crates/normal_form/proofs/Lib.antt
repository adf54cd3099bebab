-- The laws of the test of normal form.
pub mod Conditions
pub mod Tests
pub mod ByPlaces
pub mod Elements
pub mod Vectors
pub mod Loops
pub mod Hashes
pub mod Orders
pub mod Insertion
pub mod Calls
pub mod Opened
