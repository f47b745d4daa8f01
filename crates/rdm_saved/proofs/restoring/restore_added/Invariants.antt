use Rattle.std.proofs.Common.{◌≡◌, length, take, drop}
use Rattle.rdm_added.specs.Views.State.{added_entries}
use Rattle.rdm_saved.specs.SameProfile.{restored_added}
use Rattle.rdm_saved.proofs.restoring.restore_added.Given as goal

-- the values before this one are restored, and the others are as they were
abbrev pub invariant-loop-i : goal.invariant-loop-i
invariant-loop-i l = record {
  done : added_entries (take l.i l.values) ≡ restored_added (added_entries (take l.i l.initial.values)) l.bytes;
  others : drop l.i l.values ≡ drop l.i l.initial.values;
  count : length l.values ≡ length l.initial.values;
}
