pub mod Tables
pub mod Engines
