use Rattle.std.proofs.Common.{◌≡◌, ◌<◌, ◌≤◌, ◌++◌, List, ℕ, length, get_or, map, take, drop}
use Rattle.std.specs.List.{AllZip}
use Rattle.rdm_responder.specs.History.{History}
use Rattle.rdm_line.specs.Collisions.{on_wire as wave}
use Rattle.rdm_line.specs.Hearing.{answers, heard_by}
use Rattle.rdm_line.proofs.Keeping.{KeptAt}
use Rattle.rdm_line.proofs.hearing.hear_all.Given as goal

-- the devices before this one have heard the bytes, and what they answered is on the wire
abbrev pub invariant-loop-i : goal.invariant-loop-i
invariant-loop-i g l = record {
  stands : (hs : List History) → AllZip g.D.Device.stands l.initial.devices hs → AllZip g.D.Device.stands l.devices (map (heard_by l.bytes) (take l.i hs) ++ drop l.i hs);
  line : (hs : List History) → AllZip g.D.Device.stands l.initial.devices hs → (l.on_wire, l.wire) ≡ wave l.rule l.initial.wire (answers l.bytes (take l.i hs));
  kept : (hs : List History) → AllZip g.D.Device.stands l.initial.devices hs → (j : ℕ) → j < l.i → KeptAt g.D.Device.came_to l.bytes hs l.initial.devices l.devices j;
  left : (j : ℕ) (d : g.row.D.Denot) → l.i ≤ j → get_or l.devices j d ≡ get_or l.initial.devices j d;
  rest : map g.D.Device.rest l.devices ≡ map g.D.Device.rest l.initial.devices;
  as_many : length l.devices ≡ length l.initial.devices;
}
