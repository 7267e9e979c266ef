-- Packing and unpacking one element are inverse on allowed values; the laws that the code's proofs cite; each contract permits one outcome.
pub mod Kept
pub mod Elements
pub mod Room
pub mod Making
pub mod Scans
pub mod Reading
pub mod Wide
pub mod Packs
pub mod Hints
pub mod Determined
