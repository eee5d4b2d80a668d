pub mod Values
pub mod Attributes
pub mod Marks
pub mod Tags
pub mod Elements
