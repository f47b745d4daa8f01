pub mod SavedText
pub mod SameProfile
pub mod Carrying
pub mod Restoring
pub mod Laws
pub mod Views
