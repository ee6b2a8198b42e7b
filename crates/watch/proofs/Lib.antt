pub mod Answered
pub mod Books
mod Counted
mod Hearing
pub mod Runs
mod Shortest
mod Sofar
mod Writing
