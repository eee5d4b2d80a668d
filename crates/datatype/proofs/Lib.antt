pub mod Naming
pub mod Standings
pub mod Sayings
pub mod Finding
mod Plainly
