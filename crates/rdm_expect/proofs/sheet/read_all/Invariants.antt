use Rattle.std.proofs.Common.{◌*◌, ◌-◌, ◌≤◌, length, map}
use Rattle.rdm_expect.proofs.Steps.{IsReadTo}
use Rattle.rdm_expect.proofs.sheet.read_all.Given as goal

abbrev pub invariant-loop-index : goal.invariant-loop-index
invariant-loop-index l = record {
  within : l.index ≤ length l.pieces;
  few : l.sent ≤ 4 * l.index;
  read : IsReadTo (map (λ piece. piece.now) l.pieces) l.index l.sent l.sheet.script.items l.sheet.expectations.items;
}

abbrev pub decreases-loop-index : goal.decreases-loop-index
decreases-loop-index l = length l.pieces - l.index
