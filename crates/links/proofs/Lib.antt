mod Steps
mod Opened
mod Seen
