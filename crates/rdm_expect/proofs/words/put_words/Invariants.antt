use Rattle.std.proofs.Common.{◌≡◌, ◌++◌, take}
use Rattle.std.specs.List.{flat_map}
use Rattle.rdm_expect.specs.Lines.{kept_word}
use Rattle.rdm_expect.proofs.words.put_words.Given as goal

abbrev pub invariant-loop-piece : goal.invariant-loop-piece
invariant-loop-piece l = l.words.items ≡ l.fn.words.items ++ flat_map kept_word (take l.piece-index l.pieces)
