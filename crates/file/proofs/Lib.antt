-- how large the numbers of so many bits are, and which bits they have
pub mod Numbers
-- what a loop leaves that writes the front of a column
pub mod Fronts
-- where the joint bit of a token stands
pub mod Joint
