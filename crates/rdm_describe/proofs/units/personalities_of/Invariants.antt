use Rattle.std.proofs.Common.{◌≡◌, ◌++◌, ◌∷◌, []}
use Rattle.rdm_describe.specs.Answers.{each}
use Rattle.rdm_describe.specs.Parts.{personality_of}
use Rattle.rdm_describe.proofs.units.personalities_of.Given as goal

-- those so far
abbrev pub invariant-loop-n : goal.invariant-loop-n
invariant-loop-n l = l.list.items ≡ each (λ number. personality_of l.answers l.sub number ∷ []) 1 l.n
