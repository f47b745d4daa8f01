pub mod ImageText
pub mod Reading
pub mod Areas
pub mod Laws
pub mod Saves
pub mod Disks
pub mod Files
pub mod Restarts
