use Rattle.std.proofs.Common.{◌≡◌, take}
use Rattle.std.specs.List.{flat_map}
use Rattle.rdm_survey.specs.Members.{other_of}
use Rattle.rdm_survey.proofs.partner.partners.Given as goal

abbrev pub invariant-loop-clash : goal.invariant-loop-clash
invariant-loop-clash l = l.list.items ≡ flat_map (other_of l.uid) (take l.clash-index l.clashes)
