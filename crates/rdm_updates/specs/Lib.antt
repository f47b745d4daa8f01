pub mod Updated
pub mod Laws
pub mod SavedValues
pub mod Left
pub mod Lasting
