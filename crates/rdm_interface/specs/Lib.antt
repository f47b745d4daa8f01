pub mod Answers
pub mod Exchanges
pub mod Interfaces
pub mod Sessions
pub mod Lines
pub mod Askings
