use Rattle.rdm_updates.proofs.Numbered.{kept_made}
use Rattle.rdm_updates.proofs.places.kept_value_place.Goals as goal

pub returns-clause-value : goal.returns-clause-value
returns-clause-value c =
    kept_made c.args.image.now c.args.n c.kept_place.result c.word_at-pid.result c.word_at-index.result c.text_place.result c.requires.number c.kept_place.ensures.value c.word_at-pid.ensures c.word_at-index.ensures c.text_place.ensures
