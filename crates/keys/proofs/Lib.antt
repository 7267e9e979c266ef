-- Key making, step by step.
pub mod Drawing
pub mod Rounding
pub mod Written
pub mod Made
pub mod Checks
-- The contract permits one outcome.
pub mod Determined
