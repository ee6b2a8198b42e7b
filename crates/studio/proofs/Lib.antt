mod Marks
mod Telling
