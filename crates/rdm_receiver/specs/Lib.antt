pub mod Signals
pub mod Receiving
pub mod Packets
