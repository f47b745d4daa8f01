use Rattle.std.proofs.Common.{◌≡◌, ◌++◌, ◌∷◌, []}
use Rattle.rdm_describe.specs.Answers.{asked, each}
use Rattle.rdm_describe.proofs.plan.put_about.Given as goal

-- those so far
abbrev pub invariant-loop-n : goal.invariant-loop-n
invariant-loop-n l = l.list.items ≡ l.fn.list.items ++ each (λ number. asked l.first.sub l.first.pid number ∷ []) l.first.about l.n
