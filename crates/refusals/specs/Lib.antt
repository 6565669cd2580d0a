-- every refusal by its number, place and layer
pub mod Refusals
