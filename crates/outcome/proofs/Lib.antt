-- A promise permits one outcome.
pub mod One
