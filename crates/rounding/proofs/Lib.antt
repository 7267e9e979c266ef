-- The laws of the rounding and hint rules.
pub mod Closed
pub mod Hints
pub mod Congruent
pub mod Small
pub mod Power
pub mod Norms
pub mod Halves
pub mod Recovers
pub mod Determined
