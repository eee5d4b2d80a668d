pub mod Tables
pub mod Shares
pub mod Readings
