use Rattle.rdm_added.specs.Spot.{Spot, sub_device}
use Rattle.rdm_added.specs.Views.State.{common_entries}
use Rattle.rdm_device.proofs.BlockSteps.{started_here}
use Rattle.rdm_device.proofs.device.blocks.start_one.Goals as goal

pub returns-clause-after : goal.returns-clause-after
returns-clause-after c =
    let spot : Spot = sub_device c.args.profile.now (common_entries c.args.common.now) in
    started_here c.args.start c.slots_of.result spot (common_entries c.write_start.new.common) c.slots_of.ensures c.if-slots_of-eq0.false (c.write_start.ensures.after spot)
