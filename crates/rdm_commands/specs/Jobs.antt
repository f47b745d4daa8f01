pub mod Asks
pub mod Commit
pub mod Outcome
pub mod Thresholds
pub mod Usual
pub mod Work
