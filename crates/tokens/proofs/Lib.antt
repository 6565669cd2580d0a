-- bits of one word
pub mod Bits
-- which kinds words have, after each way to make them
pub mod Members
-- tables of words, each against its list of kinds
pub mod Tables
-- what the laws of rows say of each answer
pub mod Laws
-- what composite tokens are made of
pub mod Composites
