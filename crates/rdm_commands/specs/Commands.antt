pub mod Added
pub mod Changed
pub mod Commands
pub mod Panel
pub mod Placing
pub mod Saving
