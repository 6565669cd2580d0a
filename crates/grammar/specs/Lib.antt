-- which columns are refused, and why
pub mod Verdict
-- the calls on a reading
pub mod Calls
-- what opening a reading does
pub mod Open
-- a check of each entry of a column
pub mod Each
