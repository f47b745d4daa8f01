pub mod LineText
pub mod Numbers
pub mod Reading
pub mod Traces
