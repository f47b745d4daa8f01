use Rattle.rdm_added.specs.Views.State.{added_entries}
use Rattle.rdm_added.proofs.KeptValues.{placed_all}
use Rattle.rdm_added.proofs.added.placing.store_placed.Goals as goal

pub returns-clause-after : goal.returns-clause-after
returns-clause-after c spot =
    placed_all c.args.def.now spot c.args.value.now (added_entries c.args.own.now.added.items) (added_entries c.place_shaped.new.values.items) c.place_shaped.ensures.after
