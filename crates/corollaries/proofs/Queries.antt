-- How far one new file moves the figure of coverage.
pub mod Moves
