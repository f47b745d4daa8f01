use Rattle.rdm_updates.proofs.Numbered.{in_kept, in_subs}
use Rattle.rdm_updates.proofs.places.value_place_behind.Goals as goal

pub returns-then-n-kept-clause-value : goal.returns-then-n-kept-clause-value
returns-then-n-kept-clause-value c =
    in_kept c.args.image.now c.args.n c.said_sensors-sensors.result c.said_kept-kept.result c.kept_value_place.result c.said_sensors-sensors.ensures.value c.said_kept-kept.ensures.value c.if-n-sensors.false c.if-n-kept.true c.kept_value_place.ensures.value

pub returns-clause-value : goal.returns-clause-value
returns-clause-value c =
    in_subs c.args.image.now c.args.n c.said_sensors-sensors.result c.said_kept-kept.result c.sub_place.result c.said_sensors-sensors.ensures.value c.said_kept-kept.ensures.value c.if-n-sensors.false c.if-n-kept.false c.sub_place.ensures.value
