-- What signing reads around its tries.
pub mod Inner
