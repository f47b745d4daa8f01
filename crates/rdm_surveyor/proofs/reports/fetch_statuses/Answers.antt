use Rattle.rdm_surveyor.proofs.Getting.{from_nothing, none_got}
use Rattle.rdm_surveyor.proofs.reports.fetch_statuses.Goals as goal

pub returns-clause-got : goal.returns-clause-got
returns-clause-got g c = from_nothing g.P.Port.hears c.fetch.result c.args.port.now c.fetch.new.port c.fetch.ensures.got

pub returns-clause-tried : goal.returns-clause-tried
returns-clause-tried g c = c.fetch.ensures.tried c.args.port.now (none_got g.P.Port.hears c.args.port.now)
