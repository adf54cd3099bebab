-- The laws of the instances: the table row by row, lists of calls run from their start, a round through the centre among them, and the
-- first faulty field in turn.
pub mod Instances
pub mod Compared
pub mod NotNormal
pub mod Broken
pub mod Unusual
pub mod OneRun
pub mod Lists
pub mod RoundListed
pub mod FirstFault
