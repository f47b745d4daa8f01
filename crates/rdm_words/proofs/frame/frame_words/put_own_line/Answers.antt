use Rattle.rdm_words.specs.LaidOut.{form_facts}
use Rattle.rdm_words.proofs.Naming.{adds_line}
use Rattle.rdm_words.proofs.frame.frame_words.put_own_line.Goals as goal

pub returns : goal.returns
returns c =
    adds_line c.put_value.result (form_facts c.args.layout.1 c.args.data.now) _ _ _ c.in_ok-push_str.ensures.bytes c.put_value.ensures
