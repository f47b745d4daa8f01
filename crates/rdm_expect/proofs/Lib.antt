pub mod Branches
pub mod Pieces
pub mod Rows
pub mod Scripts
pub mod Steps
pub mod WordSteps
