use Rattle.std.proofs.Common.{rules, ◌≢◌}
use Rattle.rdm_commands.proofs.BlockCommands.{added_told, added_not_told}
use Rattle.rdm_commands.proofs.commands.Devices.get_added.Goals as goal

pub returns-clause-ok : goal.returns-clause-ok
returns-clause-ok c =
    let other : c.args.pid ≢ 0x0140 = search rules in
    added_told c.args.self.now c.args.pid c.args.data.now c.get_at_root.new.body c.get_at_root.result c.requires.stays c.requires.unknown other c.get_at_root.ensures.ok

pub returns-clause-err : goal.returns-clause-err
returns-clause-err c = added_not_told c.args.self.now c.args.pid c.args.data.now c.get_at_root.result c.requires.stays c.requires.unknown c.get_at_root.ensures.err
