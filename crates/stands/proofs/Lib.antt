-- That columns and records stand for the same candidates after every step, and that the entries of both storages give the same. Assumes nothing.
pub mod Alike
pub mod EachPlace
pub mod Steps
pub mod Choices
pub mod Puts
pub mod Jobs
pub mod Hangs
pub mod Ends
pub mod Rows
pub mod Every
pub mod Work
pub mod Entries
