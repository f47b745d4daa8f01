use Rattle.std.proofs.Common.{◌≡◌, ◌++◌, replicate}
use Rattle.rdm_survey.proofs.table.put_spaces.Given as goal

abbrev pub invariant-loop-i : goal.invariant-loop-i
invariant-loop-i l = l.text.items ≡ l.fn.text.items ++ replicate l.i 0x20
