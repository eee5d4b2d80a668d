pub mod Written
pub mod Moments
