pub mod Alterations
pub mod Texts
pub mod Branches
pub mod Sums
pub mod Equality
pub mod DigitLemmas
pub mod Spellings
pub mod NumberSpellings
