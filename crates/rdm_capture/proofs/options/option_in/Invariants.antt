use Rattle.std.proofs.Common.{◌≡◌, length}
use Rattle.rdm_capture.specs.Blocks.{option_in}
use Rattle.rdm_capture.proofs.options.option_in.Given as goal

abbrev pub invariant-loop-rest : goal.invariant-loop-rest
invariant-loop-rest l = option_in l.order l.code l.rest ≡ option_in l.order l.code l.options

abbrev pub decreases-loop-rest : goal.decreases-loop-rest
decreases-loop-rest l = length l.rest
