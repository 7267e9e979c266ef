-- What the streams' elements hold, for any hash.
pub mod Drawn
pub mod Masking
-- The code over SHAKE256, and that each contract permits one outcome.
pub mod Expanding
pub mod Determined
