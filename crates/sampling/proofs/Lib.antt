-- What the samplers draw, by the definitions.
pub mod Bounds
pub mod Groups
pub mod Drawing
pub mod Sparse
pub mod Ranges
pub mod Edges
-- The code: what it leaves behind, how that is tied to the definitions, and its loops.
pub mod Filling
pub mod Placing
pub mod Samplings
pub mod Reading
pub mod Finding
pub mod Going
pub mod Taking
pub mod Stepping
-- The calls for set 1, and that each contract permits one outcome.
pub mod Calling
pub mod Determined
