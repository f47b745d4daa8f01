use Rattle.std.proofs.Common.{◌≡◌, ◌↔◌, ◌++◌, ◌+◌, ◌≤◌, false, length, map, take, drop}
use Rattle.rdm_device.specs.Device.Blocks.{sub_devices, total, started_from}
use Rattle.rdm_added.specs.Views.State.{common_entries}
use Rattle.rdm_device.proofs.device.blocks.start_block.Given as goal

-- the sub-devices before this one start where they are to, and the others as they did; those from this one on come behind them, and there
-- is room for these; and whether all are as they were
abbrev pub invariant-loop-i : goal.invariant-loop-i
invariant-loop-i l = record {
  done : map common_entries l.subs ≡ take l.i (started_from l.base (sub_devices l.profile (map common_entries l.initial.subs))) ++ drop l.i (map common_entries l.initial.subs);
  rest : drop l.i (started_from l.base (sub_devices l.profile (map common_entries l.initial.subs))) ≡ started_from l.next (sub_devices l.profile (drop l.i (map common_entries l.initial.subs)));
  room : l.next + total (sub_devices l.profile (drop l.i (map common_entries l.initial.subs))) ≤ 513;
  as_many : length (map common_entries l.subs) ≡ length (map common_entries l.initial.subs);
  same : (l.changed ≡ false) ↔ (map common_entries l.subs ≡ map common_entries l.initial.subs);
}
