pub mod Meaning
pub mod Edges
pub mod Joining
pub mod Writing
