-- Key making, step by step.
pub mod Inner
