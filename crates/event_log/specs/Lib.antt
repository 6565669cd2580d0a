-- how many records there may be
pub mod Limits
-- the trees that a log stands for, and its records
pub mod Forest
-- what always holds of a log
pub mod Sound
-- the steps of a grammar, and what they come to
pub mod Program
pub mod Steps
-- what a run went through, and when it comes to something
pub mod Traces
pub mod Settling
-- islands
pub mod Island
-- what a log tells: by its forest, and by the rule on bare records
pub mod Told
pub mod Tell
-- the laws of what is told
pub mod Balance
pub mod Spelling
-- any calls, one after another
pub mod Reading
-- the theory of programs
pub mod Theory
-- what a call does to a parser: the contracts
pub mod Model
-- what a call does to a node
pub mod Marks
