use Rattle.rdm_crew.proofs.Closes.{after_the_mark as ruled_out}
use Rattle.rdm_crew.proofs.laws.headline_of_run_rules_out.Goals as goal

pub returns : goal.returns
returns c = record { after_the_mark = ruled_out }
