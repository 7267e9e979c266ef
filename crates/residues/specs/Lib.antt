-- The definitions of remainders.
pub mod Remainder
