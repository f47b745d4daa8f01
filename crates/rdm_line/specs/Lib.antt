pub mod Collisions
pub mod Hearing
pub mod Keeping
pub mod Laws
pub mod Lends
pub mod Line
pub mod Searching
pub mod Stations
