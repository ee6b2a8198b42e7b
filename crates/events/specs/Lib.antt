pub mod Sameness
pub mod Refused
pub mod Words
