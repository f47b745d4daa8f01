use Rattle.std.proofs.Common.{◌≡◌, ◌++◌, take}
use Rattle.std.specs.List.{flat_map}
use Rattle.rdm_describe.specs.Notes.{if_unread}
use Rattle.rdm_describe.proofs.notes.put_unread.Given as goal

-- those so far
abbrev pub invariant-loop-question : goal.invariant-loop-question
invariant-loop-question l = l.list.items ≡ l.fn.list.items ++ flat_map (if_unread l.answers) (take l.question-index l.questions)
