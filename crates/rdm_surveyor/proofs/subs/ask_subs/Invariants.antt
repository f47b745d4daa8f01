use Rattle.std.specs.Prelude.{◌≡◌}
use Rattle.rdm_surveyor.specs.Getting.{GoesOn}
use Rattle.rdm_surveyor.proofs.Numbers.{IsSoFar}
use Rattle.rdm_surveyor.proofs.subs.ask_subs.Given as goal

abbrev pub invariant-loop-before : goal.invariant-loop-before
invariant-loop-before g l =
    (l.asker ≡ l.fn.asker)
    × IsSoFar g.P.Port.hears l.fn.asker l.count l.before l.fn.port l.told.items l.left l.port
    × GoesOn g.P.Port.hears l.fn.port l.port
