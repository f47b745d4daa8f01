use Rattle.rdm_interface.proofs.Searches.{Through}
use Rattle.rdm_interface.proofs.searching.run_through.Given as goal

abbrev pub invariant-loop : goal.invariant-loop
invariant-loop g l =
    Through g.P.Port.hears l.retries l.fn.search.source l.fn.search.stage l.fn.search.left l.fn.search.found.items l.fn.port l.search.source l.search.stage l.search.left l.search.found.items l.port

abbrev pub decreases-loop : goal.decreases-loop
decreases-loop g l = l.search.left
