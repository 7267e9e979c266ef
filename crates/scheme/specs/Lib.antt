-- Key making, signing and checking.
pub mod Elements
pub mod Keys
pub mod Try
pub mod Sign
pub mod Check
pub mod Demand3
