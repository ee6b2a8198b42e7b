pub mod Kinds
pub mod AsRuns
pub mod Written
pub mod Fields
pub mod Lines
