pub mod Described
pub mod Entries
pub mod Names
pub mod Numerals
pub mod Plain
pub mod Slots
pub mod Words
