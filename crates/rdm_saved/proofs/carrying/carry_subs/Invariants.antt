use Rattle.std.proofs.Common.{◌≡◌, length, take, drop, map}
use Rattle.rdm_added.specs.Views.State.{common_entries}
use Rattle.rdm_saved.specs.Carrying.{carried_devices, subs_place}
use Rattle.rdm_saved.proofs.carrying.carry_subs.Given as goal

-- the sub-devices before this one are carried over, and the others are as they were
abbrev pub invariant-loop-i : goal.invariant-loop-i
invariant-loop-i l = record {
  done : map common_entries (take l.i l.subs) ≡ carried_devices l.i l.profile l.image (map common_entries (take l.i l.initial.subs)) (drop (subs_place l.image) l.image);
  others : drop l.i l.subs ≡ drop l.i l.initial.subs;
  count : length l.subs ≡ length l.initial.subs;
}
