pub mod Meaning
pub mod Parted
pub mod Words
pub mod Amounts
