pub mod Quoted
pub mod Parting
pub mod Wording
pub mod Oids
pub mod Choices
pub mod Amounting
pub mod Faults
