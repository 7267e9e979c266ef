-- What the memory holds from stage to stage of a try.
pub mod Inner
