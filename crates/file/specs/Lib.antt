-- what the bits of a token file say, when it is refused, and what is then in the columns
pub mod TokenFile
