-- The samplers over a stream of any length, and the calls.
pub mod Samplers
pub mod Calls
pub mod Inner
