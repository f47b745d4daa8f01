pub mod Documents
mod Names
pub mod Paintings
pub mod Reading
mod Tracing
