-- Set 1 and the sets of SPEC 1.6 meet the conditions; each contract permits one outcome.
pub mod Five
pub mod Determined
