pub mod Numbers
pub mod Packets
pub mod Carried
pub mod Blocks
pub mod Captures
pub mod Written
pub mod Traces
