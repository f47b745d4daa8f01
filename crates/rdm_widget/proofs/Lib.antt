pub mod Turns
pub mod Requests
pub mod Reports
pub mod Ready
pub mod Ends
pub mod Rigs
pub mod Measured
