-- The definition in the order in which the code goes.
pub mod Order
-- What is read and drawn, the high bits, and the comparison.
pub mod Loading
pub mod Recomputing
pub mod Comparing
-- The contract permits one answer.
pub mod Determined
