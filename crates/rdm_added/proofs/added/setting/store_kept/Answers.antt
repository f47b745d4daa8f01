use Rattle.std.proofs.Common.{refl}
use Rattle.rdm_added.specs.Added.{index_kept, bytes_kept}
use Rattle.rdm_added.specs.Views.State.{added_entries}
use Rattle.rdm_added.proofs.KeptValues.{kept_all}
use Rattle.rdm_added.proofs.added.setting.store_kept.Goals as goal

pub returns-clause-after : goal.returns-clause-after
returns-clause-after c spot =
    kept_all c.args.def.now spot c.args.value.now (added_entries c.args.own.now.added.items) (added_entries c.store_shaped.new.values.items) (index_kept c.args.def.now.shape c.args.value.now) (bytes_kept c.args.def.now.shape c.args.value.now) refl refl c.store_shaped.ensures.after
