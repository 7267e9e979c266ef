-- The table of worked cases.
pub mod Table
