mod Bits
mod Shape
mod Complement
pub mod Determined
