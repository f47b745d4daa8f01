-- What a SET that changes a value is said to change. E1.20 sections 9, 10.5.6 and 10.7; E1.37-1.
use Rattle.std.specs.Prelude.{ℕ, ◌==◌, ◌||◌, if◌then◌else◌}
use Rattle.rdm_commands.specs.declared.changed.Changed.{Changed}
use Rattle.rdm_commands.specs.declared.changed.Changed.TheVariants.{Value, Several}
use Rattle.rdm_table.specs.declared.kind.Verb.TheVariants.{Set}
use Rattle.rdm_commands.specs.Commands.Commands.{is_all_call, is_block}

-- The parameter that shows what a SET of this one writes: itself, but for RECORD_SENSORS, which writes what SENSOR_VALUE
-- shows. Sections 10.7.2 and 10.7.3.
abbrev pub pid_written : ℕ → ℕ
pid_written pid = if pid == 0x0202 then 0x0201 else pid

-- Several values, by a SET of every sub-device, by FACTORY_DEFAULTS or by DMX_BLOCK_ADDRESS, which sets the start addresses of the
-- sub-devices; else those of one parameter at one device.
abbrev pub change_of : ℕ → ℕ → Changed
change_of sub pid = if is_all_call sub Set || (pid == 0x0090) || is_block pid then Several else Value sub (pid_written pid)
