use Rattle.rdm_crew.specs.Workers.{in_turn}
use Rattle.rdm_crew.proofs.Law.{none_astray, each_is_on_its_job}
use Rattle.rdm_crew.proofs.laws.no_report_goes_astray.Goals as goal

pub returns-clause-next : goal.returns-clause-next
returns-clause-next g c part = none_astray (in_turn g.P.Part.gives g.P.Part.gives_after part)

pub returns-clause-each : goal.returns-clause-each
returns-clause-each g c part = each_is_on_its_job (in_turn g.P.Part.gives g.P.Part.gives_after part)
