pub mod Requests
pub mod Line
pub mod Answers
pub mod Exchanges
pub mod Losses
pub mod Ranges
pub mod Stages
pub mod Searches
