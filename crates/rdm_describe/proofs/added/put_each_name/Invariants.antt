use Rattle.std.proofs.Common.{◌≡◌, ◌++◌, ◌∷◌, []}
use Rattle.rdm_describe.specs.Answers.{each}
use Rattle.rdm_describe.specs.Choices.{name_of}
use Rattle.rdm_describe.proofs.added.put_each_name.Given as goal

-- those so far
abbrev pub invariant-loop-n : goal.invariant-loop-n
invariant-loop-n l = l.list.items ≡ l.fn.list.items ++ each (λ number. name_of l.answers l.pid number ∷ []) 1 l.n
