use Rattle.std.proofs.Common.{length, drop, ◌-◌, ◌≤◌, None}
use Rattle.rdm_interface.specs.Answers.{belongs}
use Rattle.rdm_interface.specs.Exchanges.{IsNext}
use Rattle.rdm_interface.proofs.finding.find_answer.Given as goal

abbrev pub invariant-loop-done : goal.invariant-loop-done
invariant-loop-done l = record {
  within : l.done ≤ length l.bytes;
  next : IsNext (belongs l.wanted) l.bytes None (drop l.done l.bytes);
}

abbrev pub decreases-loop-done : goal.decreases-loop-done
decreases-loop-done l = length l.bytes - l.done
