-- what a sink takes
pub mod Sink
-- what a walk does, and its law
pub mod Walk
-- a vector over lent memory
pub mod Lent
-- the listing: its lines, and what it takes
pub mod Lines
pub mod Listing
-- the node table: which node an item stands in, and what it takes
pub mod Nodes
pub mod Table
