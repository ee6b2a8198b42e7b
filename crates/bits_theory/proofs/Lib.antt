pub mod Bit
pub mod Reach
pub mod Adding
pub mod Longest
pub mod Leading
pub mod Picks
pub mod Loops
pub mod Resuming
