use Rattle.std.proofs.Common.{◌≡◌, ◌++◌, ◌∷◌, []}
use Rattle.rdm_describe.specs.Answers.{each}
use Rattle.rdm_describe.specs.Notes.{unsayable_at}
use Rattle.rdm_describe.proofs.notes.put_unsayable.Given as goal

-- those so far
abbrev pub invariant-loop-place : goal.invariant-loop-place
invariant-loop-place l = l.list.items ≡ l.fn.list.items ++ each (unsayable_at l.answers l.parameters) 0 l.place
