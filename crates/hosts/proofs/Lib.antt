-- bracket runs
pub mod Runs
-- lawful answers
pub mod Lawful
-- the hosts are lawful
pub mod HostLaws
-- filling rows
pub mod Filling
