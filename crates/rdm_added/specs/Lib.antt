pub mod Added
pub mod Locking
pub mod Map
pub mod Numbers
pub mod Parameters
pub mod Scenes
pub mod Spot
pub mod Views
