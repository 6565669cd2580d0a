-- the first token at fault
pub mod Firsts
-- the verdict on columns
pub mod Verdicts
-- a reading from call to call
pub mod Readings
