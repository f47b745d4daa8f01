use Rattle.std.proofs.Common.{◌≡◌, ◌++◌, take}
use Rattle.std.specs.List.{flat_map}
use Rattle.rdm_survey.specs.Csv.{comma_field}
use Rattle.rdm_survey.proofs.csv_text.put_more_fields.Given as goal

abbrev pub invariant-loop-member : goal.invariant-loop-member
invariant-loop-member l = l.text.items ≡ l.fn.text.items ++ flat_map comma_field (take l.member-index l.members)
