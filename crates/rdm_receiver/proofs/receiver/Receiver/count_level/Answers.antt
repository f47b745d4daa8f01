use Rattle.std.proofs.Common.{refl, arith}
use Rattle.rdm_receiver.proofs.Keeping.{keeps_level}
use Rattle.rdm_receiver.proofs.receiver.Receiver.count_level.Goals as goal

pub returns-clause-keeps : goal.returns-clause-keeps
returns-clause-keeps c = λ bytes keeps.
    keeps_level c.args.self.now _ bytes c.args.byte c.requires c.requires refl (omega (arith, c.if-self-ge-MOST_DMX_SLOTS.false)) keeps
