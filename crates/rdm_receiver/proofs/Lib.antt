pub mod Spent
pub mod Keeping
pub mod Hearing
pub mod Packets
pub mod Standing
