mod Words
mod Blocks
mod Held
mod Padding
mod Mapped
mod Squeezed
pub mod Output
pub mod Determined
