pub mod Suits
-- Each contract permits one outcome.
pub mod Determined
-- Demand 3, of the definitions and of the code.
pub mod Demand3
pub mod Carried
