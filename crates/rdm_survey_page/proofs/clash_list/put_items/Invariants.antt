use Rattle.std.proofs.Common.{◌≡◌, ◌++◌, take}
use Rattle.std.specs.List.{flat_map}
use Rattle.rdm_survey_page.specs.Clashes.{clash_item}
use Rattle.rdm_survey_page.proofs.clash_list.put_items.Given as goal

abbrev pub invariant-loop-clash : goal.invariant-loop-clash
invariant-loop-clash l = l.text.items ≡ l.fn.text.items ++ flat_map clash_item (take l.clash-index l.clashes)
