use Rattle.std.proofs.Common.{◌≢◌, ◌∙◌, sym}
use Rattle.rdm_table.specs.Table.Kinds.{pid_of}
use Rattle.rdm_commands.proofs.OtherRanges.{in_range_at_all}
use Rattle.rdm_commands.proofs.commands.Devices.is_in_range_at_each.Goals as goal

pub returns-else-pid : goal.returns-else-pid
returns-else-pid c =
    let other : pid_of c.args.kind ≢ 0x00F0 = λ same. c.if-pid.false (c.pid.ensures ∙ same ∙ sym c.pid-2.ensures) in
    sym (in_range_at_all c.args.self.now c.args.sub (pid_of c.args.kind) c.args.verb c.args.value.now other c.requires.all c.requires.first)
