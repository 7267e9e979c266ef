-- The ring's product, and what its call answers. Inner is for functions inside.
pub mod Ring
pub mod Profile
pub mod Calls
pub mod Inner
