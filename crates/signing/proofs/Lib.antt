-- The key that is read, and why reading refuses.
pub mod Refusals
pub mod Reading
-- The signature that is written, how a call ends, and its checks in their order.
pub mod Written
pub mod Outcomes
pub mod Checks
-- The contract permits one outcome.
pub mod Determined
