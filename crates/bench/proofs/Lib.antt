-- one path more
pub mod Paths
