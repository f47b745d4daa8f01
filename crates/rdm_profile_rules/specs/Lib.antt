pub mod Faults
pub mod Standards
