use Rattle.std.proofs.Common.{◌≡◌, ◌++◌, ◌∷◌, []}
use Rattle.rdm_describe.specs.Answers.{each}
use Rattle.rdm_describe.specs.Parts.{test_at}
use Rattle.rdm_describe.proofs.fixture_parts.tests_of.Given as goal

-- those so far
abbrev pub invariant-loop-n : goal.invariant-loop-n
invariant-loop-n l = l.list.items ≡ each (test_at l.answers) 1 l.n
