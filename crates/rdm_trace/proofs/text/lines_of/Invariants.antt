use Rattle.std.proofs.Common.{◌≡◌, ◌+◌, ◌≤◌, length, drop}
use Rattle.rdm_trace.specs.Traces.{pieces_of}
use Rattle.rdm_trace.proofs.Traces.{HasRead}
use Rattle.rdm_trace.proofs.text.lines_of.Given as goal

abbrev pub invariant-loop-end : goal.invariant-loop-end
invariant-loop-end l = record {
  left : pieces_of l.rest ≡ drop l.index (pieces_of l.trace);
  read : HasRead (pieces_of l.trace) l.index l.lines.items;
  within : l.index + length l.rest ≤ length l.trace;
}

abbrev pub decreases-loop-end : goal.decreases-loop-end
decreases-loop-end l = length l.rest
