use Rattle.std.proofs.Common.{[], refl, arith}
use Rattle.rdm_search.proofs.Exchanges.{nothing_said}
use Rattle.rdm_search.proofs.driving.run.Goals as goal

pub loop-init : goal.loop-init
loop-init g c = record {
  stands = c.requires;
  same = refl;
  said = nothing_said g.P.Port.hears _ [] _ _ _ _ refl refl;
  source = refl;
  sent = omega arith;
  left = omega arith;
}
