use Rattle.std.proofs.Common.{get_or, ap}
use Rattle.rdm_added.specs.Added.{set_back_in}
use Rattle.rdm_added.specs.declared.state.Kept.{Kept}
use Rattle.rdm_added.specs.Views.State.{kept_entry, made_of, no_entry}
use Rattle.rdm_added.proofs.KeptValues.{one_written, one_same}
use Rattle.rdm_added.proofs.added.resetting.set_back_at.Goals as goal

pub returns-clause-after : goal.returns-clause-after
returns-clause-after c =
    let old : Kept = get_or c.args.values.now c.args.index c.index-values-index.result in
    one_written kept_entry no_entry (made_of (set_back_in c.args.locks.now c.args.state c.args.defs.now)) c.args.values.now c.args.index old c.set_one_back.new.kept c.requires (ap (λ (d : Kept). get_or c.args.values.now c.args.index d) c.index-values-index.is) c.set_one_back.ensures.after

pub returns-clause-same : goal.returns-clause-same
returns-clause-same c =
    let old : Kept = get_or c.args.values.now c.args.index c.index-values-index.result in
    one_same no_entry kept_entry c.set_one_back.result c.args.values.now c.args.index old c.set_one_back.new.kept c.requires (ap (λ (d : Kept). get_or c.args.values.now c.args.index d) c.index-values-index.is) c.set_one_back.ensures.same
