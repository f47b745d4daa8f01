pub mod Proposals
pub mod Lines
