pub mod Match
pub mod Laws
pub mod Follow
pub mod Calls
pub mod Examples
