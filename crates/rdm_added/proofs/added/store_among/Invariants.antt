use Rattle.std.proofs.Common.{◌≡◌, ◌↔◌, ◌++◌, false, length, map, take, drop}
use Rattle.rdm_added.specs.Views.State.{added_entries, stored_in}
use Rattle.rdm_added.proofs.added.store_among.Given as goal

-- the values before this one are stored, and the others as they were; and whether all are as they were
abbrev pub invariant-loop-i : goal.invariant-loop-i
invariant-loop-i l = record {
  stored : added_entries l.values ≡ map (stored_in l.pid l.index l.bytes) (take l.i (added_entries l.initial.values)) ++ drop l.i (added_entries l.initial.values);
  as_many : length (added_entries l.values) ≡ length (added_entries l.initial.values);
  same : (l.changed ≡ false) ↔ (added_entries l.values ≡ added_entries l.initial.values);
}
