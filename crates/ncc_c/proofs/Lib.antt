-- Every answer fits its number, and each contract permits one outcome.
pub mod Small
pub mod Coding
pub mod Determined
