use Rattle.std.proofs.Common.{◌≡◌, ◌+◌, ◌*◌, ◌++◌, length, drop}
use Rattle.std.specs.Prelude.{flat_map}
use Rattle.rdm_saved.specs.SavedText.{own_text}
use Rattle.rdm_saved.proofs.profile_text.append_own.Given as goal

abbrev pub invariant-loop-i : goal.invariant-loop-i
invariant-loop-i l = (l.text ++ flat_map own_text (drop l.i l.defs) ≡ l.initial.text ++ flat_map own_text l.defs) × (length l.text ≡ length l.initial.text + 4 * l.i)
