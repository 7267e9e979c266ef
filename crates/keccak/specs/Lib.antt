-- The permutation, and where its tables come from. Inner is for functions inside.
pub mod Keccak
pub mod Tables
pub mod Inner
