pub mod Months
pub mod Reading
pub mod Parting
pub mod Whole
pub mod Ranges
pub mod Answers
pub mod FourteenDigits
