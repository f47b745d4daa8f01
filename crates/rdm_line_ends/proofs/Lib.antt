pub mod Places
pub mod LineRuns
pub mod Rereading
pub mod Messages
pub mod StatusAsks
pub mod Responding
pub mod Replying
pub mod Wires
pub mod Streams
pub mod Asking
mod Coming
pub mod Together
pub mod Fixtures
pub mod Finding
pub mod Texts
pub mod Through
