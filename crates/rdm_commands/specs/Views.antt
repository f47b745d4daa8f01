pub mod Plates
pub mod Verdicts
