-- The numbers of inputs that are too short or too long.
pub mod Lengths
