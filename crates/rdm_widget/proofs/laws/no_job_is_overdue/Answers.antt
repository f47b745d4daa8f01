use Rattle.rdm_widget.proofs.Ready.{none_has_ended}
use Rattle.rdm_widget.proofs.laws.no_job_is_overdue.Goals as goal

pub returns : goal.returns
returns c = none_has_ended
