pub mod Meaning
pub mod Sides
pub mod Readings
