use Rattle.std.proofs.Common.{◌≡◌, ◌++◌, take}
use Rattle.rdm_words.specs.Plain.{shown}
use Rattle.rdm_words.proofs.text.put_shown.Given as goal

abbrev pub invariant-loop-byte : goal.invariant-loop-byte
invariant-loop-byte l = l.out.items ≡ l.fn.out.items ++ shown (take l.byte-index l.words)
