use Rattle.std.proofs.Common.{◌≡◌}
use Rattle.rdm_describe.specs.Answers.{each}
use Rattle.rdm_describe.specs.Parts.{estimate_at}
use Rattle.rdm_describe.proofs.fixture_parts.estimates_told.Given as goal

-- those so far
abbrev pub invariant-loop-number : goal.invariant-loop-number
invariant-loop-number l = l.list.items ≡ each (estimate_at l.answers) 0 l.number
