use Rattle.std.proofs.Common.{◌≡◌, map, drop}
use Rattle.std.specs.List.{list_all}
use Rattle.rdm_table.specs.Table.Rows.{command_of}
use Rattle.rdm_added.specs.Spot.{sub_device}
use Rattle.rdm_table.specs.Table.Kinds.{pid_of}
use Rattle.rdm_added.specs.Views.State.{common_entries}
use Rattle.rdm_table.specs.Table.Uses.{in_range_of}
use Rattle.rdm_table.proofs.table.sub_devices.all_in_range.Given as goal

abbrev pub invariant-loop-common : goal.invariant-loop-common
invariant-loop-common l =
    list_all (λ spot. in_range_of (command_of (pid_of l.kind) l.verb) spot l.value) (map (sub_device l.profile) (map common_entries (drop l.common-index l.subs))) ≡ list_all (λ spot. in_range_of (command_of (pid_of l.kind) l.verb) spot l.value) (map (sub_device l.profile) (map common_entries l.subs))
