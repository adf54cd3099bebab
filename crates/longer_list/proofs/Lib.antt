-- A list of twenty-six calls, run from its start.
pub mod Longer
