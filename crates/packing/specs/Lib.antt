-- Keys and signatures as wholes, and what the calls answer. Inner is for functions inside.
pub mod Parts
pub mod Calls
pub mod Inner
