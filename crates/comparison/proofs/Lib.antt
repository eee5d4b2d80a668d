pub mod Options
pub mod Answers
pub mod Signs
pub mod SameKinds
pub mod Types
pub mod Parts
pub mod Flags
pub mod Sayings
