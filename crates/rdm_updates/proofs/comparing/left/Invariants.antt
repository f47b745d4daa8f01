use Rattle.std.proofs.Common.{◌≡◌, drop}
use Rattle.rdm_updates.specs.Left.{left, first_left}
use Rattle.rdm_updates.specs.SavedValues.{saved_values}
use Rattle.rdm_updates.proofs.comparing.left.Given as goal

-- the new image has all values before this one
abbrev pub invariant-loop-number : goal.invariant-loop-number
invariant-loop-number l = left l.old l.new l.from ≡ first_left l.new l.number (drop l.number (saved_values l.old))
