pub mod Kinds
pub mod Rows
pub mod Uses
pub mod Names
