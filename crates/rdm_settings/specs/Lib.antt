pub mod Cells
pub mod Columns
pub mod Data
pub mod Lines
pub mod Places
pub mod Sheets
pub mod Twice
