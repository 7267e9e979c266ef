-- What checking reads and draws before it compares.
pub mod Inner
