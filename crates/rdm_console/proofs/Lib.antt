pub mod Drafts
pub mod Exchanges
pub mod Hearing
pub mod Messages
pub mod Posts
pub mod Runs
