pub mod Blocks
pub mod Measuring
pub use Rattle.rdm_added.specs.Parameters
pub use Rattle.rdm_profile.specs.Profiles
pub use Rattle.rdm_profile.specs.Values
pub use Rattle.rdm_profile.specs.Workers
