-- An input is cut in two seeds.
pub mod Cut
