pub mod Rooms
pub mod Separate
