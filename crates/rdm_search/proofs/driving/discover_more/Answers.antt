use Rattle.rdm_search.proofs.Runs.{goes_on}
use Rattle.rdm_search.proofs.driving.discover_more.Goals as goal

pub run-requires : goal.run-requires
run-requires g c =
    goes_on c.resume-search.result.stage c.resume-search.result.found.items c.args.found.items (g.P.Port.fixtures c.args.port.now) c.resume-search.ensures.stage c.resume-search.ensures.found c.requires.devices c.requires.known c.requires.real c.requires.once
