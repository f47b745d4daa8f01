use Rattle.std.proofs.Common.{◌≡◌, ◌++◌, map, take}
use Rattle.rdm_describe.specs.Texts.{printed}
use Rattle.rdm_describe.proofs.comments.put_printed.Given as goal

-- those so far
abbrev pub invariant-loop-word : goal.invariant-loop-word
invariant-loop-word l = l.text.items ≡ l.fn.text.items ++ map printed (take l.word-index l.words)
