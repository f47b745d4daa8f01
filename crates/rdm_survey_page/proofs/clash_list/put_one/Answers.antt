use Rattle.std.proofs.Common.{codes, decimal}
use Rattle.rdm_survey_page.proofs.Pieces.{last_put}
use Rattle.rdm_survey_page.proofs.clash_list.put_one.Goals as goal

pub returns : goal.returns
returns c =
    last_put c.put_number.result c.args.text.now.items _ c.put_number.new.text.items (codes " share slot ") (decimal c.args.slot)
    c.in_ok-extend_from_slice.ensures.items c.put_number.ensures
