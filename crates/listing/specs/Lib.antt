pub mod Bounds
pub mod Sets
pub mod Places
pub mod Answers
