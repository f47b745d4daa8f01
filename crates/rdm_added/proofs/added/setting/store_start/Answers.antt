use Rattle.std.proofs.Common.{refl}
use Rattle.rdm_added.specs.Views.State.{added_entries}
use Rattle.rdm_added.proofs.KeptValues.{cleared_all}
use Rattle.rdm_added.proofs.added.setting.store_start.Goals as goal

pub returns-clause-after : goal.returns-clause-after
returns-clause-after c spot v =
    cleared_all c.args.def.now spot v (added_entries c.args.own.now.added.items) (added_entries c.store_in.new.values.items) c.args.def.now.pid _ refl refl c.store_in.ensures.after
