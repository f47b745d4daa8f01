use Rattle.std.proofs.Common.{◌≡◌, ◌≤◌, length, drop}
use Rattle.rdm_profile.specs.Fields.{say}
use Rattle.rdm_added.proofs.added.fields.say.Given as goal

-- the data say the fields exactly if those from here on say the fields from this one on
abbrev pub invariant-loop-i : goal.invariant-loop-i
invariant-loop-i l = record {
  rest : say (drop l.i l.fields) (drop l.at l.bytes) ≡ say l.fields l.bytes;
  within : l.at ≤ length l.bytes;
}
