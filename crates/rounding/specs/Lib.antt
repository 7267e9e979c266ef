-- The rounding and hint rules.
pub mod Rounding
pub mod Used
