pub mod Carried
pub mod Checks
pub mod Faults
pub mod Rows
