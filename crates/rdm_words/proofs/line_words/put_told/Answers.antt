use Rattle.rdm_words.proofs.Fixed.{tells_text}
use Rattle.rdm_words.proofs.line_words.put_told.Goals as goal

pub returns : goal.returns
returns c =
    record { told = (_, tells_text c.args.words.now c.some_words.result.now c.some_words.ensures.some c.some_words.ensures.same, c.in_ok-put_whole.ensures) }
