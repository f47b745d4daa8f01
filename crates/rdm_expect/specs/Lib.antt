pub mod Lines
pub mod Reasons
pub mod Sheets
pub mod Verdicts
pub mod Wishes
