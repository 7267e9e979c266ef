-- The numbers of a set, and the conditions on them.
pub mod Set
pub mod Good
