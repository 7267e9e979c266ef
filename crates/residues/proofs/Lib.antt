-- The laws of whole numbers and their remainders, and how the machine holds them.
pub mod Order
pub mod Ints
pub mod Differences
pub mod Remainders
pub mod Centres
pub mod Determined
