use Rattle.std.proofs.Common.{length}
use Rattle.rdm_words.proofs.data.statuses.put_filled.Given as goal

abbrev pub decreases-loop-rest : goal.decreases-loop-rest
decreases-loop-rest l = length l.rest
