use Rattle.std.proofs.Common.{◌≡◌, map, take}
use Rattle.rdm_entry.specs.Names.{as_printed}
use Rattle.rdm_entry.proofs.parameter.printed.Given as goal

abbrev pub invariant-loop-byte : goal.invariant-loop-byte
invariant-loop-byte l = l.name ≡ map as_printed (take l.byte-index l.word)
