use Rattle.rdm_commands.proofs.PowerOns.{one_more_is}
use Rattle.rdm_commands.proofs.commands.saving.one_more.Goals as goal

pub returns : goal.returns
returns c = one_more_is c.args.count c.saturating_add.result c.ranges.count.fits c.saturating_add.ensures
