-- what the program makes of a file
pub mod List
-- the tree that it prints
pub mod KindNames
pub mod Tree
