pub mod Frames
pub mod Words
pub mod Answers
