pub mod Meaning
pub mod Tables
pub mod Bounds
pub mod Said
pub mod Records
pub mod Sides
