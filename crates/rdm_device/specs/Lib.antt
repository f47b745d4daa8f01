pub mod Columns
pub mod Device
