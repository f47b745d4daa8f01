pub mod OnlyKeys
pub mod Readings
pub mod RefusalEquality
pub mod Parts
pub mod Names
