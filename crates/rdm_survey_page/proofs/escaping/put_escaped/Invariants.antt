use Rattle.std.proofs.Common.{◌≡◌, ◌++◌, take}
use Rattle.rdm_survey_page.specs.Escaping.{escaped}
use Rattle.rdm_survey_page.proofs.escaping.put_escaped.Given as goal

abbrev pub invariant-loop-byte : goal.invariant-loop-byte
invariant-loop-byte l = l.text.items ≡ l.fn.text.items ++ escaped (take l.byte-index l.words)
