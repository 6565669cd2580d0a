-- what records tell, by index
pub mod ByIndex
-- chains of forward parents
pub mod Chains
-- items that a sink is told, one after the other
pub mod Taking
-- the listing's lines
pub mod Lines
-- the marks of a walk
pub mod Marks
-- what records tell, one by one and all together
pub mod Groups
-- what is told is lawful
pub mod Laws
-- the marks before and after a walk
pub mod Walking
-- the node that the next item of a table stands in
pub mod Nodes
pub mod Tables
