use Rattle.std.proofs.Common.{◌≡◌, ◌↔◌, ◌++◌, false, length, map, take, drop}
use Rattle.rdm_added.specs.Added.{set_back_in}
use Rattle.rdm_added.specs.Views.State.{added_entries, made_of}
use Rattle.rdm_added.proofs.added.resetting.set_each_back.Given as goal

-- the values before this one are set back, and the others as they were; and whether all are as they were
abbrev pub invariant-loop-i : goal.invariant-loop-i
invariant-loop-i l = record {
  done : added_entries l.values ≡ map (made_of (set_back_in l.locks l.state l.defs)) (take l.i (added_entries l.initial.values)) ++ drop l.i (added_entries l.initial.values);
  as_many : length (added_entries l.values) ≡ length (added_entries l.initial.values);
  same : (l.changed ≡ false) ↔ (added_entries l.values ≡ added_entries l.initial.values);
}
