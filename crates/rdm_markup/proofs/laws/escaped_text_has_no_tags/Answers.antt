use Rattle.std.proofs.Common.{chars}
use Rattle.rdm_markup.proofs.Plainness.{plain_in_markup}
use Rattle.rdm_markup.proofs.laws.escaped_text_has_no_tags.Goals as goal

pub returns : goal.returns
returns c = λ place text. plain_in_markup place (chars text)
