pub mod Refusals
pub mod After
pub mod Following
