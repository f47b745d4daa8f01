-- Which status entries a device reports of. E1.20 section 10.3.5.
use Rattle.std.specs.Prelude.{ℕ, Bool, false, ◌==◌, ◌&&◌, not, nat_le, slice_get, slice_index}
use Rattle.std.specs.Option.{option_map_or}
use Rattle.rdm_frame.specs.declared.status.Entry.{Entry as StatusEntry}
use Rattle.rdm_frame.specs.declared.status.Severity.{Severity}
use Rattle.rdm_frame.specs.Severities.{rank_of}
use Rattle.rdm_table.specs.declared.kind.Verb.TheVariants.{Get}
use Rattle.rdm_commands.specs.Commands.Commands.{addressed}
use Rattle.rdm_added.specs.Map.{lookup}
use Rattle.rdm_added.specs.Parameters.{Parameters}
use Rattle.rdm_added.specs.Spot.{Spot}

-- the severity from which on a device reports, or 00
abbrev pub threshold : Spot → ℕ
threshold spot = slice_index (lookup spot.entries 0x0033 0) 0

-- whether a device reports of an entry of this severity: never if its threshold is 00
abbrev pub reports : Severity → Spot → Bool
reports severity spot = not (threshold spot == 0x00) && nat_le (threshold spot) (rank_of severity)

-- Whether an entry is noted: the device that it is of reports of it. It isn't if there is no such device.
unfoldable pub notes : Parameters → StatusEntry → Bool
notes p e = option_map_or (reports e.severity) (slice_get (addressed p e.sub Get) 0) false
