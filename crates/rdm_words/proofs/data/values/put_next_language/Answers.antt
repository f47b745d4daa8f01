use Rattle.std.proofs.Common.{codes, refl}
use Rattle.rdm_words.specs.FieldFacts.{as_text}
use Rattle.rdm_words.specs.HeaderWords.{quoted}
use Rattle.rdm_words.proofs.LaidOut.{adds_separated, word_put}
use Rattle.rdm_words.proofs.data.values.put_next_language.Goals as goal

pub returns : goal.returns
returns c =
    adds_separated c.put_quoted.result (as_text c.args.language.now) (codes " ") _ _ _ refl c.in_ok-push_str.ensures.bytes
    (word_put c.put_quoted.result (quoted c.args.language.now) _ _ c.put_quoted.ensures)
