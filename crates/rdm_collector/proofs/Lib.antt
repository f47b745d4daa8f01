pub mod AnyDevice
pub mod Hearing
pub mod Joining
pub mod Kept
pub mod PollingRuns
pub mod ReadBack
pub mod Refusals
