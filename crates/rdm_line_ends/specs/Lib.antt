pub mod LineRun
pub mod LineLaws
pub mod Replies
pub mod Ends
pub mod Searches
pub mod Through
