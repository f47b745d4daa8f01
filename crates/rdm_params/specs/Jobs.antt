pub use Rattle.rdm_commands.specs.Jobs.Asks
pub use Rattle.rdm_commands.specs.Jobs.Commit
pub use Rattle.rdm_commands.specs.Jobs.Outcome
pub use Rattle.rdm_commands.specs.Jobs.Thresholds
pub use Rattle.rdm_commands.specs.Jobs.Usual
pub use Rattle.rdm_commands.specs.Jobs.Work
pub mod Laws
