use Rattle.std.proofs.Common.{◌≡◌, length, take, drop, map}
use Rattle.rdm_added.specs.Views.State.{common_entries}
use Rattle.rdm_saved.specs.SameProfile.{restored_devices}
use Rattle.rdm_saved.proofs.restoring.restore_each.Given as goal

-- the sub-devices before this one are restored, and the others are as they were
abbrev pub invariant-loop-i : goal.invariant-loop-i
invariant-loop-i l = record {
  done : map common_entries (take l.i l.subs) ≡ restored_devices (map common_entries (take l.i l.initial.subs)) l.bytes;
  others : drop l.i l.subs ≡ drop l.i l.initial.subs;
  count : length l.subs ≡ length l.initial.subs;
}
