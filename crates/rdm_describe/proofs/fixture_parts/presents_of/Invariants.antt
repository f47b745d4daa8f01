use Rattle.std.proofs.Common.{◌≡◌, ◌++◌, ◌∷◌, []}
use Rattle.rdm_describe.specs.Answers.{each}
use Rattle.rdm_describe.specs.Parts.{present_of}
use Rattle.rdm_describe.proofs.fixture_parts.presents_of.Given as goal

-- those so far
abbrev pub invariant-loop-number : goal.invariant-loop-number
invariant-loop-number l = l.list.items ≡ each (λ number. present_of l.answers number ∷ []) 0 l.number
