pub mod Signs
pub mod Cues
pub mod Held
pub mod Bridge
