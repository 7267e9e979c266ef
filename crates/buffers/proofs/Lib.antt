-- The laws of copies and of conversions.
pub mod Copies
pub mod Changes
pub mod Determined
