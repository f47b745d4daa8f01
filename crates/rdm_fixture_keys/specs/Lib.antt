pub mod Values
pub mod Keys
pub mod Refusals
pub mod Faults
pub mod Wrong
pub mod Entries
