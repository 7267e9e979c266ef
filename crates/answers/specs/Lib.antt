-- The answers that a call can give, and results as the definitions give them.
pub mod Refusals
pub mod Result
pub mod Inner
