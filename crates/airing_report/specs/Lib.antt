pub mod Reading
pub mod Inputs
pub mod Reported
