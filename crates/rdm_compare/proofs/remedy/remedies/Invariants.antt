use Rattle.std.proofs.Common.{◌≡◌, take}
use Rattle.rdm_compare.specs.Remedies.{remedies}
use Rattle.rdm_compare.proofs.remedy.remedies.Given as goal

abbrev pub invariant-loop-was : goal.invariant-loop-was
invariant-loop-was l = l.list.items ≡ remedies (take l.was-index l.then) l.now
