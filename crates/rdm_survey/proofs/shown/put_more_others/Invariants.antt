use Rattle.std.proofs.Common.{◌≡◌, ◌++◌, ◌∷◌, map, take}
use Rattle.std.specs.List.{flat_map}
use Rattle.rdm_survey.specs.Members.{partner_word}
use Rattle.rdm_survey.proofs.shown.put_more_others.Given as goal

abbrev pub invariant-loop-other : goal.invariant-loop-other
invariant-loop-other l = l.text.items ≡ l.fn.text.items ++ flat_map (λ v. 0x3B ∷ 0x20 ∷ v) (map partner_word (take l.other-index l.others))
