pub mod Cuts
pub mod Decimals
pub mod HexBack
pub mod ReadBack
pub mod Spacing
mod Times
pub mod Traces
