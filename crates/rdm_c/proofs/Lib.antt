pub mod Emptied
pub mod Frees
pub mod Many
pub mod ModeSteps
pub mod Values
pub mod ImageStatuses
pub mod Receivers
