pub mod Fetching
pub mod Getting
pub mod Numbers
pub mod Questions
