pub mod Carried
pub mod Inside
pub mod Names
pub mod Plain
pub mod Rows
pub mod Tags
pub mod Texts
