use Rattle.std.proofs.Common.{arith}
use Rattle.rdm_receiver.specs.Signals.{since_break}
use Rattle.rdm_receiver.specs.Receiving.{HasHeard}
use Rattle.rdm_receiver.proofs.receiver.Receiver.new.Goals as goal

pub returns : goal.returns
unfolding HasHeard since_break
returns c = record { no_packet = λ e. absurd (omega (arith, e)); no_levels = λ e. absurd (omega (arith, e)) }
