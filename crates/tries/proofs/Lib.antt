-- The laws behind the tries of signing.
pub mod Stages
pub mod Norms
pub mod Trying
pub mod Judging
pub mod Determined
