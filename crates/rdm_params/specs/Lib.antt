pub use Rattle.rdm_device.specs.Columns
pub use Rattle.rdm_device.specs.Device
pub use Rattle.rdm_table.specs.Table
pub use Rattle.rdm_commands.specs.Commands
pub use Rattle.rdm_commands.specs.Views
pub mod Laws
pub mod Jobs
pub mod Pins
