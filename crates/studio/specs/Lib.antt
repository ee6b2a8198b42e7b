pub mod Lane
pub mod Marks
pub mod Show
