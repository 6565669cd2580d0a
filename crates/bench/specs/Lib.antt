-- the records that are told
pub mod Path
