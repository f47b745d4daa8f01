pub mod Once
pub mod Blocks
pub mod Written
pub mod Times
pub mod Finding
pub mod Going
pub mod Recorded
