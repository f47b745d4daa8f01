use Rattle.rdm_survey.proofs.Texts.{keys_put}
use Rattle.rdm_survey.proofs.csv_text.put_keys.Goals as goal

pub returns : goal.returns
returns c = keys_put c.extend_from_slice-2.result c.args.text.now.items _ _ c.in_ok-extend_from_slice.ensures.items c.extend_from_slice-2.ensures.items
