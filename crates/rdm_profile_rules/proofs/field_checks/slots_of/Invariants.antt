use Rattle.std.proofs.Common.{◌≡◌, ◌+◌, ◌*◌, ◌≤◌, drop}
use Rattle.rdm_profile.specs.Fields.{slots_of}
use Rattle.rdm_profile_rules.proofs.field_checks.slots_of.Given as goal

-- the slots so far and those of the fields from this one on are all of them
abbrev pub invariant-loop-i : goal.invariant-loop-i
invariant-loop-i l = (l.slots + slots_of (drop l.i l.fields) ≡ slots_of l.fields) × (l.slots ≤ 4 * l.i)
