mod Listed
mod Reading
mod Starts
mod Values
