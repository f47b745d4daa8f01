pub mod Commented
pub mod Lists
pub mod Pieces
