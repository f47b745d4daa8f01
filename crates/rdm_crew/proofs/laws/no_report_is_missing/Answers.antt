use Rattle.rdm_crew.specs.Workers.{in_turn}
use Rattle.rdm_crew.proofs.Law.{none_missing, one_missing_at_most}
use Rattle.rdm_crew.proofs.laws.no_report_is_missing.Goals as goal

pub returns-clause-none : goal.returns-clause-none
returns-clause-none g c part = none_missing (in_turn g.P.Part.gives g.P.Part.gives_after part)

pub returns-clause-one : goal.returns-clause-one
returns-clause-one g c part = one_missing_at_most (in_turn g.P.Part.gives g.P.Part.gives_after part)
