-- The table of worked cases, proved.
pub mod Worked
