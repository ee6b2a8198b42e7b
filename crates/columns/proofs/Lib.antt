pub mod Numbers
pub mod Splits
pub mod Readings
pub mod Writing
pub mod Placing
pub mod Texts
