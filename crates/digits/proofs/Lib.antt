-- The laws of digits.
pub mod Numbers
pub mod Codes
pub mod Windows
pub mod Written
pub mod Determined
