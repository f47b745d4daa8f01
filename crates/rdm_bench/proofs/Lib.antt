pub mod GoodProfile
pub mod Sums
pub mod Frames
pub mod Runs
