use Rattle.std.proofs.Common.{◌≡◌, drop}
use Rattle.std.specs.List.{list_any}
use Rattle.rdm_updates.specs.Left.{has, is_value}
use Rattle.rdm_updates.specs.SavedValues.{saved_values, told}
use Rattle.rdm_updates.proofs.comparing.has.Given as goal

-- none of the values before this one is it
abbrev pub invariant-loop-number : goal.invariant-loop-number
invariant-loop-number l = has l.image (told l.value) ≡ list_any (is_value (told l.value)) (drop l.number (saved_values l.image))
