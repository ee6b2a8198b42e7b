mod Reading
pub mod Tells
pub mod Adding
