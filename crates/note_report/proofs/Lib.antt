pub mod Breaks
pub mod Bytes
pub mod Steps
pub mod Once
mod Reporting
