use Rattle.rdm_words.specs.LaidOut.{form_facts}
use Rattle.rdm_words.proofs.Naming.{adds_below}
use Rattle.rdm_words.proofs.frame.frame_words.put_laid_out.Goals as goal

pub returns : goal.returns
returns c =
    adds_below c.put_laid_out_lines.result (form_facts c.args.layout.1 c.args.data.now) c.as_str.result.now _ _ _ c.in_ok-put_below.ensures c.put_laid_out_lines.ensures
