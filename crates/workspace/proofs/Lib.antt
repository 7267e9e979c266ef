-- One element of the memory at a time.
pub mod Memory
pub mod Writing
-- Arithmetic on places.
pub mod Making
-- What places hold, from step to step.
pub mod Holding
-- Places filled, and places packed.
pub mod Filling
pub mod HintBits
pub mod Fields
pub mod Codes
pub mod Committing
pub mod Packing
-- Each contract permits one outcome.
pub mod Determined
