-- The plain history machine: the order of versions, the largest tick, its steps, and what it keeps along every history.
pub mod Best
pub mod Supremum
pub mod Greatest
pub mod Steps
pub mod Laws
pub mod History
