pub mod Lane
pub mod Rule
pub mod Ends
pub mod Settling
pub mod Laws
