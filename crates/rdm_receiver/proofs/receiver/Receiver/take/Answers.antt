use Rattle.std.proofs.Common.{◌≡◌, arith, rules}
use Rattle.rdm_receiver.specs.Receiving.{IsWaiting}
use Rattle.rdm_receiver.proofs.Keeping.{keeps_waiting}
use Rattle.rdm_receiver.proofs.receiver.Receiver.take.Goals as goal

pub returns-in_default-clause-keeps : goal.returns-in_default-clause-keeps
returns-in_default-clause-keeps c =
    let waits : IsWaiting c.args.self.now = search rules in
    λ bytes keeps. keeps_waiting c.args.self.now bytes c.args.byte waits keeps
