use Rattle.rdm_updates.proofs.Numbered.{sensor_made}
use Rattle.rdm_updates.proofs.places.sensor_place.Goals as goal

pub returns-clause-value : goal.returns-clause-value
returns-clause-value c = sensor_made c.args.image.now c.args.n c.sensors_place.result c.requires.number c.sensors_place.ensures.value
