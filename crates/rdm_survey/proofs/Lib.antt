pub mod Ascii
pub mod Ordering
pub mod ReadBack
pub mod Texts
pub mod Tokens
pub mod Unshowing
