use Rattle.rdm_surveyor.proofs.Getting.{from_nothing, none_got}
use Rattle.rdm_surveyor.proofs.surveying.survey.Goals as goal

pub returns-clause-got : goal.returns-clause-got
returns-clause-got g c = from_nothing g.P.Port.hears c.ask_all.result c.args.port.now c.ask_all.new.port c.ask_all.ensures.got

pub returns-clause-tried : goal.returns-clause-tried
returns-clause-tried g c = c.ask_all.ensures.tried c.args.port.now (none_got g.P.Port.hears c.args.port.now)
