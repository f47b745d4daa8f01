use Rattle.rdm_params.proofs.UsualSlow.{usual_takes_the_tables_time, usual_has_the_tables_workers, usual_is_answered_by_the_table}
use Rattle.rdm_params.proofs.jobs.laws.usual_profile_is_as_slow_as_the_table.Goals as goal

pub returns-clause-time : goal.returns-clause-time
returns-clause-time c = usual_takes_the_tables_time

pub returns-clause-way : goal.returns-clause-way
returns-clause-way c = usual_is_answered_by_the_table

pub returns-clause-worker : goal.returns-clause-worker
returns-clause-worker c = usual_has_the_tables_workers
