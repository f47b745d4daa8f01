pub mod Arrows
pub mod Drawings
pub mod Elements
pub mod Errors
pub mod Pictures
pub mod Reading
pub mod Requests
