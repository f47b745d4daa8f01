use Rattle.std.proofs.Common.{◌≡◌, ◌++◌, take}
use Rattle.std.specs.List.{flat_map}
use Rattle.rdm_describe.specs.Comments.{comment, note_words}
use Rattle.rdm_describe.proofs.comments.put_notes.Given as goal

-- those so far
abbrev pub invariant-loop-note : goal.invariant-loop-note
invariant-loop-note l = l.text.items ≡ l.fn.text.items ++ flat_map (λ note. comment (note_words l.answers note)) (take l.note-index l.notes)
