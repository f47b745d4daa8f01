pub mod Nexts
pub mod Waits
pub mod Sessions
pub mod Alikes
pub mod Searches
pub mod Repeats
pub mod Lines
