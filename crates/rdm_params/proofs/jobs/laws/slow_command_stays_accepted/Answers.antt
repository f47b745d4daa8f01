use Rattle.rdm_params.proofs.StaysAccepted.{stays_accepted, set_keeps_devices, commit_keeps_devices, panel_keeps_devices, place_keeps_devices}
use Rattle.rdm_params.proofs.jobs.laws.slow_command_stays_accepted.Goals as goal

pub returns-clause-accepted : goal.returns-clause-accepted
returns-clause-accepted c = stays_accepted

pub returns-clause-set : goal.returns-clause-set
returns-clause-set c = set_keeps_devices

pub returns-clause-commit : goal.returns-clause-commit
returns-clause-commit c = commit_keeps_devices

pub returns-clause-panel : goal.returns-clause-panel
returns-clause-panel c = panel_keeps_devices

pub returns-clause-place : goal.returns-clause-place
returns-clause-place c = place_keeps_devices
