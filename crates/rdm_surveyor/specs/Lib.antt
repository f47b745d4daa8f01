pub mod Asking
pub mod Getting
pub mod Statuses
pub mod Surveys
pub mod Tells
