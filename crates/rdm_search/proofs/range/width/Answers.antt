use Rattle.std.proofs.Common.{◌-◌, arith}
use Rattle.std.proofs.lemmas.Nat.{one_shl}
use Rattle.rdm_search.proofs.Places.{width_fits}
use Rattle.rdm_search.proofs.range.width.Goals as goal

pub returns-clause-fits : goal.returns-clause-fits
returns-clause-fits c = omega (arith, one_shl (48 - c.args.depth) 64 (omega arith), width_fits c.args.depth)
