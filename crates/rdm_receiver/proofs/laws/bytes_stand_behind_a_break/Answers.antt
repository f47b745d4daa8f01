use Rattle.rdm_receiver.proofs.Standing.{count, stand}
use Rattle.rdm_receiver.proofs.laws.bytes_stand_behind_a_break.Goals as goal

pub returns-clause-stand : goal.returns-clause-stand
returns-clause-stand c = stand

pub returns-clause-count : goal.returns-clause-count
returns-clause-count c = count
