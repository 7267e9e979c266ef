-- SHAKE256, and its padding in bits. Inner is for functions inside.
pub mod Shake
pub mod Padding
pub mod Inner
