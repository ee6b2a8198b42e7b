pub mod Live
pub mod Sightings
pub mod Standings
pub mod Endings
pub mod Calls
pub mod Follow
