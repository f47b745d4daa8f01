use Rattle.std.proofs.Common.{◌≡◌, ◌++◌, take}
use Rattle.rdm_frame.specs.Digits.{digits}
use Rattle.rdm_frame.proofs.digits.put_digits.Given as goal

abbrev pub invariant-loop-byte : goal.invariant-loop-byte
invariant-loop-byte l = l.text.items ≡ l.fn.text.items ++ digits (take l.byte-index l.bytes)
