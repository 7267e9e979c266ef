-- The packed layouts: codes, elements and hints. Inner is for functions inside.
pub mod Layouts
pub mod Hints
pub mod Inner
