use Rattle.rdm_updates.proofs.Numbered.{sub_made}
use Rattle.rdm_updates.proofs.places.sub_place.Goals as goal

pub returns-clause-value : goal.returns-clause-value
returns-clause-value c = sub_made c.args.image.now c.args.n c.subs_place.result c.common_place.result c.requires.number c.subs_place.ensures.value c.common_place.ensures.value
