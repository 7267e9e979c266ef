-- Numbers, their digits and their bytes. Inner is for functions inside.
pub mod Digits
pub mod Inner
