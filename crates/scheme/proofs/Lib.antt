-- What signing signs, checking accepts.
pub mod Agree
pub mod Tries
pub mod Allowed
pub mod Made
pub mod Accepts
pub mod Demand3
pub mod Reason4
