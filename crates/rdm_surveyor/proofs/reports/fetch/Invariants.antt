use Rattle.std.specs.Prelude.{◌<◌}
use Rattle.rdm_surveyor.specs.Asking.{ends}
use Rattle.rdm_surveyor.specs.Getting.{GoesOn}
use Rattle.rdm_surveyor.proofs.Fetching.{IsSoFar}
use Rattle.rdm_surveyor.proofs.reports.fetch.Given as goal

abbrev pub invariant-loop-number : goal.invariant-loop-number
invariant-loop-number g l =
    IsSoFar g.P.Port.hears (ends l.console l.uid) l.number l.fn.port l.fn.reports.items l.tally l.reports.items l.port
    × (l.tally.silent < 3)
    × GoesOn g.P.Port.hears l.fn.port l.port
