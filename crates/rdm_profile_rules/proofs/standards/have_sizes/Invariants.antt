use Rattle.std.proofs.Common.{◌≡◌, drop}
use Rattle.rdm_profile.specs.Fields.{have_sizes}
use Rattle.rdm_profile_rules.proofs.standards.have_sizes.Given as goal

-- all fields have their sizes exactly if those from this one on have
abbrev pub invariant-loop-i : goal.invariant-loop-i
invariant-loop-i l = have_sizes (drop l.i l.fields) (drop l.i l.sizes) ≡ have_sizes l.fields l.sizes
