-- What a run is made of before any of its threads is started, and what it leaves.
use Rattle.std.specs.Prelude.{◌≡◌, ℕ, List, []}
use Rattle.rdm_commands.specs.declared.jobs.outcome.Outcome.{Outcome}
use Rattle.rdm_commands.specs.declared.panel.Change.{Change}
use Rattle.rdm_outbox.specs.declared.job.Job.{Job}
use Rattle.rdm_bus.specs.BusLaws.{recorded}
use Rattle.rdm_lane.specs.Lane.{LaneLaw}
use Rattle.rdm_crew.specs.declared.ready.Ready.{Ready}
use Rattle.rdm_crew.specs.declared.setup.Setup.{Setup}
use Rattle.rdm_crew.specs.declared.step.CrewStep.{CrewStep}
use Rattle.rdm_crew.specs.declared.trace.Ended.{Ended}
use Rattle.rdm_crew.specs.Closes.{handed_by, IsHandedOver}
use Rattle.rdm_crew.specs.Crews.{IsTied, HasChanges}
use Rattle.rdm_crew.specs.RunTrace.{IsRunTrace}
use Rattle.rdm_crew.specs.Settling.{IsLaneOfOne, AreLanes}
use Rattle.rdm_crew.specs.Watchers.{IsUnwatched}
use Rattle.rdm_crew.specs.Workers.{IsIdle}

-- Nothing has happened, and nothing was put into a lane or taken from one.
pub record IsReady (r : Ready) : Type 0 where
  pub tied : IsTied r.crew
  pub new : r.crew.desk.system.trace ≡ []
  pub changes : HasChanges r.crew.desk r.crew.changes
  pub lanes : AreLanes r.crew.desk.reports r.crew.first r.crew.second r.first.jobs r.first.reports r.second.jobs r.second.reports
  pub panel_lane : IsLaneOfOne r.crew.changes r.watcher.changes
  pub first_idle : IsIdle r.first.jobs r.first.reports
  pub second_idle : IsIdle r.second.jobs r.second.reports
  pub unwatched : IsUnwatched r.watcher.changes

-- What a run leaves that was played to its end.
pub record IsEnded (setup : Setup) (gives_0 gives_1 : List Job → Job → Outcome → Type 0) (offers : ℕ → Change → Type 0) (steps : List CrewStep) (e : Ended) : Type 0 where
  pub trace : IsRunTrace setup gives_0 gives_1 offers steps e.system.trace
  pub collected : e.system.collector.recorded ≡ recorded e.system.trace
  pub handed : IsHandedOver setup.profile.workers e.system.trace (handed_by e.reports.taken)
  pub lane : LaneLaw 2 e.reports.taken e.reports.posted
