-- The memory that a call works in.
pub mod Inner
