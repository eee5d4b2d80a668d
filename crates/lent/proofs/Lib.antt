pub mod Numbers
pub mod Bounds
pub mod Rows
pub mod Proper
