-- The parts of keys and signatures stand where the definitions put them; packing and unpacking are inverse on allowed values; each contract permits one outcome.
pub mod Joins
pub mod Standing
pub mod Wholes
pub mod WholesOfSet1
pub mod Calling
pub mod Inverse
pub mod OfSet1
pub mod Determined
