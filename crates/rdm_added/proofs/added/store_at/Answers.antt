use Rattle.std.proofs.Common.{get_or, ap}
use Rattle.rdm_added.specs.declared.state.Kept.{Kept}
use Rattle.rdm_added.specs.Views.State.{kept_entry, stored_in, no_entry}
use Rattle.rdm_added.proofs.KeptValues.{one_written, one_same}
use Rattle.rdm_added.proofs.added.store_at.Goals as goal

pub returns-clause-after : goal.returns-clause-after
returns-clause-after c =
    let old : Kept = get_or c.args.values.now c.args.place c.index-values-place.result in
    one_written kept_entry no_entry (stored_in c.args.pid c.args.index c.args.bytes.now) c.args.values.now c.args.place old c.store_one.new.kept c.requires.place (ap (λ (d : Kept). get_or c.args.values.now c.args.place d) c.index-values-place.is) c.store_one.ensures.after

pub returns-clause-same : goal.returns-clause-same
returns-clause-same c =
    let old : Kept = get_or c.args.values.now c.args.place c.index-values-place.result in
    one_same no_entry kept_entry c.store_one.result c.args.values.now c.args.place old c.store_one.new.kept c.requires.place (ap (λ (d : Kept). get_or c.args.values.now c.args.place d) c.index-values-place.is) c.store_one.ensures.same
