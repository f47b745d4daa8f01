pub mod SavedTokens
pub mod ReadBack
pub mod Comparing
pub mod RoundTrip
pub mod Restoring
