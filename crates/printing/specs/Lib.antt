pub mod Dates
pub mod Terms
pub mod Records
