use Rattle.std.proofs.Common.{sym, ◌∙◌}
use Rattle.rdm_updates.proofs.Numbered.{count_is, sum_same}
use Rattle.rdm_updates.proofs.places.place_count.Goals as goal

pub returns-clause-value : goal.returns-clause-value
returns-clause-value c =
    sum_same c.said_sensors.ensures.value c.said_kept.ensures.value c.said_subs.ensures.value ∙ sym (count_is c.args.image.now)
