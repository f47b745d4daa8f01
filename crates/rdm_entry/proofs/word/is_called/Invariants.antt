use Rattle.std.proofs.Common.{◌≡◌, length, map}
use Rattle.std.specs.Str.{bytes_eq}
use Rattle.rdm_entry.specs.Words.{sound}
use Rattle.rdm_entry.proofs.word.is_called.Given as goal

abbrev pub invariant-loop-rest : goal.invariant-loop-rest
invariant-loop-rest l = bytes_eq (map sound l.rest) (map sound l.left) ≡ bytes_eq (map sound l.name) (map sound l.word)

abbrev pub decreases-loop-rest : goal.decreases-loop-rest
decreases-loop-rest l = length l.rest
