pub mod Columns
pub mod Fields
pub mod Pieces
pub mod Utf8
