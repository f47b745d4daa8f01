use Rattle.std.proofs.Common.{◌≡◌, length, take, drop, map}
use Rattle.rdm_added.specs.Map.{entry}
use Rattle.rdm_added.specs.Views.State.{added_entries}
use Rattle.rdm_saved.specs.Carrying.{carried_kept}
use Rattle.rdm_saved.proofs.carrying.added.carry_added.Given as goal

-- the values before this one are carried over, and the others are as they were
abbrev pub invariant-loop-i : goal.invariant-loop-i
invariant-loop-i l = record {
  done : added_entries (take l.i l.values) ≡ map (λ e. entry e.pid e.index (carried_kept l.profile l.image e)) (added_entries (take l.i l.initial.values));
  others : drop l.i l.values ≡ drop l.i l.initial.values;
  count : length l.values ≡ length l.initial.values;
}
