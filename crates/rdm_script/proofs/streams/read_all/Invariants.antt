use Rattle.std.proofs.Common.{◌≤◌, ◌-◌, length}
use Rattle.std.specs.Vec.{vec_capacity}
use Rattle.std.specs.Io.KnownBytes.{Consumes}
use Rattle.rdm_script.proofs.streams.read_all.Given as goal

abbrev pub invariant-loop-piece : goal.invariant-loop-piece
invariant-loop-piece g l = record {
  taken : Consumes (g.R.Read.remaining l.fn.reader) (g.R.Read.remaining l.reader) l.input.items;
  within : length l.input.items ≤ 65537;
  room : 65537 ≤ vec_capacity l.input;
  piece : length l.piece ≤ 1024;
}

abbrev pub decreases-loop-piece : goal.decreases-loop-piece
decreases-loop-piece g l = 65537 - length l.input.items
