pub mod Faults
pub mod Tally
pub mod Reports
pub mod Packed
pub mod Device
pub mod Replay
pub mod Replayed
