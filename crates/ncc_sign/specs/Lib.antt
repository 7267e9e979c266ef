-- What the program answers.
pub mod Input
