use Rattle.std.proofs.Common.{◌≡◌, ◌-◌, ◌≤◌, length}
use Rattle.rdm_trace.specs.Reading.{spaced_bytes}
use Rattle.rdm_trace.proofs.Spacing.{with_front}
use Rattle.rdm_trace.proofs.digits.wire_in.Given as goal

abbrev pub invariant-loop-rest : goal.invariant-loop-rest
invariant-loop-rest l = record {
  bytes : with_front l.bytes (spaced_bytes (257 - length l.bytes) l.rest) ≡ spaced_bytes 257 l.text;
  room : length l.bytes ≤ 257;
}

abbrev pub decreases-loop-rest : goal.decreases-loop-rest
decreases-loop-rest l = length l.rest
