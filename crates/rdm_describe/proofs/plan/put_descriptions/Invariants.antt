use Rattle.std.proofs.Common.{◌≡◌, ◌++◌, ◌∷◌, []}
use Rattle.rdm_describe.specs.Answers.{each}
use Rattle.rdm_describe.specs.Plan.{if_makers}
use Rattle.rdm_describe.proofs.plan.put_descriptions.Given as goal

-- those so far
abbrev pub invariant-loop-n : goal.invariant-loop-n
invariant-loop-n l = l.list.items ≡ l.fn.list.items ++ each (if_makers l.answers) 0x8000 l.n
