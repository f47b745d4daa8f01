mod Characters
pub mod Plainness
