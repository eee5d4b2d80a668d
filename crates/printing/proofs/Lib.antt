pub mod Dates
pub mod Stamps
pub mod Terms
pub mod Records
