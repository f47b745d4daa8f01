use Rattle.rdm_commands.proofs.BlockCommands.{added_set_refused}
use Rattle.rdm_commands.proofs.commands.Devices.set_added.Goals as goal

pub returns-clause-err : goal.returns-clause-err
returns-clause-err c = added_set_refused c.args.self.now c.args.pid c.args.data.now c.set_at_root.result c.requires.stays c.requires.unknown c.set_at_root.ensures.err
