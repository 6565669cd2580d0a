-- the numbers of kinds
pub mod Kinds
-- how many tokens there may be
pub mod Limits
-- the joint bits of a column
pub mod Columns
-- tokens that are made of several raw ones
pub mod Parts
-- kinds as bits of words
pub mod Words
-- the sets of the grammar, as lists of kinds
pub mod Sets
-- what a token set holds
pub mod TokenSets
-- what may lie at a token place, and its laws
pub mod Islands
