pub mod Listed
pub mod Runs
pub mod Booking
pub mod Report
pub mod Told
pub mod Steps
pub mod Answered
