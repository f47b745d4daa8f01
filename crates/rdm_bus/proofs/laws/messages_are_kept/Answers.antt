use Rattle.rdm_bus.proofs.Messages.{keeping}
use Rattle.rdm_bus.proofs.laws.messages_are_kept.Goals as goal

pub returns : goal.returns
returns c = keeping c.two_commands_fetch.ensures.queue c.two_commands_fetch.ensures.status c.two_commands_fetch.ensures.set
