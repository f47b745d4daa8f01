pub mod Ends
pub mod Framing
pub mod Hearing
pub mod Protocol
pub mod Serving
