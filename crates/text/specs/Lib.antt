pub mod Characters
pub mod Numbers
pub mod Reads
pub mod Words
