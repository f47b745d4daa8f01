use Rattle.std.proofs.Common.{◌≡◌, ◌++◌, take}
use Rattle.rdm_words.specs.Plain.{escaped}
use Rattle.rdm_words.proofs.text.put_escaped.Given as goal

abbrev pub invariant-loop-byte : goal.invariant-loop-byte
invariant-loop-byte l = l.out.items ≡ l.fn.out.items ++ escaped (take l.byte-index l.bytes)
