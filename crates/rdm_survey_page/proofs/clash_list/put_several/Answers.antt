use Rattle.std.proofs.Common.{codes, decimal, ◌++◌}
use Rattle.rdm_survey_page.proofs.Pieces.{both_put, last_put}
use Rattle.rdm_survey_page.proofs.clash_list.put_several.Goals as goal

pub returns : goal.returns
returns c =
    let old = c.args.text.now.items in
    let first = decimal c.args.first in
    let front = both_put old _ _ (codes " share slots ") first c.in_ok-extend_from_slice.ensures.items c.in_ok-put_number.ensures in
    let middle = both_put old _ _ (codes " share slots " ++ first) (codes " to ") front c.in_ok-extend_from_slice-2.ensures.items in
    last_put c.put_number-2.result old _ c.put_number-2.new.text.items (codes " share slots " ++ first ++ codes " to ") (decimal c.args.last) middle
    c.put_number-2.ensures
