use Rattle.std.proofs.Common.{◌≡◌, ◌++◌, take}
use Rattle.std.specs.List.{flat_map}
use Rattle.rdm_describe.specs.Notes.{if_altered}
use Rattle.rdm_describe.proofs.notes.put_altered.Given as goal

-- those so far
abbrev pub invariant-loop-answer : goal.invariant-loop-answer
invariant-loop-answer l = l.list.items ≡ l.fn.list.items ++ flat_map if_altered (take l.answer-index l.answers)
