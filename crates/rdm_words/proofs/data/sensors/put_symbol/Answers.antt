use Rattle.rdm_words.proofs.Appends.{on_ok}
use Rattle.rdm_words.proofs.LaidOut.{adds_spaced}
use Rattle.rdm_words.proofs.data.sensors.put_symbol.Goals as goal

pub returns : goal.returns
returns c = adds_spaced c.push_str-2.result c.as_str.result.now _ _ _ c.in_ok-push_str.ensures.bytes (on_ok c.push_str-2.result _ _ _ c.push_str-2.ensures.bytes)
