-- bracket runs
pub mod Runs
-- what a host is asked about
pub mod Host
-- answers that hosts give
pub mod Answers
-- the raw host
pub mod Raw
-- the plain host
pub mod Plain
-- what filling rows does
pub mod Fill
