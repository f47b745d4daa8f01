pub mod Demo
pub mod Outcomes
