use Rattle.std.proofs.Common.{get_or, ap, []}
use Rattle.rdm_added.specs.declared.state.CommonValues.{CommonValues}
use Rattle.rdm_device.specs.Device.Blocks.{started}
use Rattle.rdm_added.specs.Spot.{sub_device}
use Rattle.rdm_added.specs.Views.State.{common_entries}
use Rattle.rdm_added.proofs.KeptValues.{one_written, one_same}
use Rattle.rdm_device.proofs.device.blocks.start_at.Goals as goal

pub returns-clause-after : goal.returns-clause-after
returns-clause-after c =
    let old : CommonValues = get_or c.args.subs.now c.args.index c.index-subs-index.result in
    one_written common_entries [] (λ entries. started c.args.start (sub_device c.args.profile.now entries)) c.args.subs.now c.args.index old c.start_one.new.common c.requires (ap (λ (d : CommonValues). get_or c.args.subs.now c.args.index d) c.index-subs-index.is) c.start_one.ensures.after

pub returns-clause-same : goal.returns-clause-same
returns-clause-same c =
    let old : CommonValues = get_or c.args.subs.now c.args.index c.index-subs-index.result in
    one_same [] common_entries c.start_one.result c.args.subs.now c.args.index old c.start_one.new.common c.requires (ap (λ (d : CommonValues). get_or c.args.subs.now c.args.index d) c.index-subs-index.is) c.start_one.ensures.same
