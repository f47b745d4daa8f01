use Rattle.std.proofs.Common.{◌≡◌, ◌++◌, ◌∷◌, []}
use Rattle.rdm_describe.specs.Answers.{asked, each}
use Rattle.rdm_describe.proofs.plan.put_infos.Given as goal

-- those so far
abbrev pub invariant-loop-n : goal.invariant-loop-n
invariant-loop-n l = l.list.items ≡ l.fn.list.items ++ each (λ sub. asked sub 0x0060 0 ∷ []) 1 l.n
