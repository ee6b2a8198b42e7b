mod Steps
mod Said
mod Growth
mod Existing
mod Unique
pub mod Once
mod Reporting
