pub mod Rows
pub mod Report
