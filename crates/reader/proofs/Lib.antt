-- tokens that are taken one by one
pub mod Taking
-- a file that was read, opened, gone through and told
pub mod Files
-- the text of a tree
pub mod Trees
