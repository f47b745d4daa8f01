use Rattle.std.proofs.Common.{arith}
use Rattle.rdm_survey.proofs.Texts.{line_put}
use Rattle.rdm_survey.proofs.csv_text.put_line.Goals as goal

pub returns : goal.returns
returns c =
    line_put c.extend_from_slice.result c.args.first.now c.args.more.now c.args.text.now.items _ _ _ (omega arith) c.in_ok-put_field.ensures
    c.in_ok-put_more_fields.ensures c.extend_from_slice.ensures.items
