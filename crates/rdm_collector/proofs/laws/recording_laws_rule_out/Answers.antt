use Rattle.rdm_collector.proofs.Refusals.{skipping, recording_nothing, repeating_an_older_one}
use Rattle.rdm_collector.proofs.laws.recording_laws_rule_out.Goals as goal

pub returns-clause-skipping : goal.returns-clause-skipping
returns-clause-skipping c = skipping

pub returns-clause-recording_nothing : goal.returns-clause-recording_nothing
returns-clause-recording_nothing c = recording_nothing

pub returns-clause-repeating_an_older_one : goal.returns-clause-repeating_an_older_one
returns-clause-repeating_an_older_one c = repeating_an_older_one
