use Rattle.std.proofs.Common.{◌≡◌, ◌++◌, ◌∷◌, []}
use Rattle.rdm_describe.specs.Answers.{each}
use Rattle.rdm_describe.specs.Notes.{if_differs}
use Rattle.rdm_describe.proofs.notes.put_different.Given as goal

-- those so far
abbrev pub invariant-loop-n : goal.invariant-loop-n
invariant-loop-n l = l.list.items ≡ l.fn.list.items ++ each (if_differs l.answers) 2 l.n
