-- `tell (flats f) ≡ told f`
pub mod Telling
-- what is told is balanced
pub mod Balancing
-- which tokens are next
pub mod Ahead
-- the one induction over programs, and what it gives: tokens, kinds, place and room
pub mod Sizes
pub mod Induction
pub mod Spelling
-- the same numbers of records, by the shape of a forest
pub mod Counts
-- what an accepted run went through
pub mod Inversion
-- more turns of a loop change nothing; a loop is its first turn, and then the loop
pub mod Fuel
pub mod Unrolling
-- that a run comes to an answer or a refusal
pub mod Settling
-- the laws after any calls
pub mod Readings
-- the theory, as one list of statements
pub mod Turns
pub mod Laws
-- what is due where there is room for it, or none
pub mod Due
-- how a log grows
pub mod Growth
-- what the calls that write into the log leave in it: records, and nodes
pub mod Slots
pub mod Trees
pub mod Nodes
-- the kit: how what one call does joins with what the next one does, with nodes and with those that precede them; and that loops end
pub mod Kit
pub mod Wraps
pub mod Chains
pub mod Moves
-- islands
pub mod Islands
-- programs that take a token
pub mod Progress
-- a whole call
pub mod Performing
