use Rattle.std.proofs.Common.{◌≡◌, ◌+◌, ◌≤◌, length}
use Rattle.rdm_trace.specs.Traces.{pieces_of}
use Rattle.rdm_chart.specs.Requests.{request_count}
use Rattle.rdm_chart.proofs.requests.request_count.Given as goal

abbrev pub invariant-loop-end : goal.invariant-loop-end
invariant-loop-end l = record {
  counted : l.count + request_count (pieces_of l.rest) ≡ request_count (pieces_of l.trace);
  within : l.count + length l.rest ≤ length l.trace;
}

abbrev pub decreases-loop-end : goal.decreases-loop-end
decreases-loop-end l = length l.rest
