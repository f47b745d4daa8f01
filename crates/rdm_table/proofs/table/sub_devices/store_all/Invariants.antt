use Rattle.std.proofs.Common.{◌≡◌, ◌↔◌, ◌++◌, false, length, map, take, drop}
use Rattle.rdm_table.specs.declared.kind.Verb.TheVariants.{Set}
use Rattle.rdm_table.specs.Table.Rows.{command_of}
use Rattle.rdm_added.specs.Spot.{sub_device}
use Rattle.rdm_table.specs.Table.Uses.{written}
use Rattle.rdm_table.specs.Table.Kinds.{pid_of}
use Rattle.rdm_added.specs.Views.State.{common_entries}
use Rattle.rdm_table.proofs.table.sub_devices.store_all.Given as goal

-- the sub-devices before this one are written, and the others as they were; and whether all are as they were
abbrev pub invariant-loop-i : goal.invariant-loop-i
invariant-loop-i l = record {
  written : map common_entries l.subs ≡ map (λ entries. written (command_of (pid_of l.kind) Set) l.value (sub_device l.profile entries)) (take l.i (map common_entries l.initial.subs)) ++ drop l.i (map common_entries l.initial.subs);
  as_many : length (map common_entries l.subs) ≡ length (map common_entries l.initial.subs);
  same : (l.changed ≡ false) ↔ (map common_entries l.subs ≡ map common_entries l.initial.subs);
}
