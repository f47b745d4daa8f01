-- What has happened in a run of the bus, by its kind: the jobs that started, the reports that arrived, and the changes; and
-- the reports that its steps hand in.
use Rattle.std.specs.Prelude.{ℕ, ◌==◌, List, [], ◌∷◌, filter}
use Rattle.std.specs.Option.{option_to_list}
use Rattle.std.specs.List.{flat_map}
use Rattle.rdm_commands.specs.declared.panel.Change.{Change}
use Rattle.rdm_params.specs.Jobs.Work.{Choice, worker_at}
use Rattle.rdm_outbox.specs.declared.job.Job.{Job}
use Rattle.rdm_responder.specs.declared.report.Report.{Report}
use Rattle.rdm_bus.specs.declared.event.Event.{Event}
use Rattle.rdm_bus.specs.declared.event.Event.TheVariants.{Bus, Arrived, Changed}
use Rattle.rdm_bus.specs.declared.event.Step.{Step}
use Rattle.rdm_bus.specs.declared.event.Step.TheVariants as step

-- the job that an event starts, and the report that arrives in it
abbrev pub started_in : Event → List Job
started_in (Bus sent poll fault reply job heard) = option_to_list job
started_in (Arrived report message kept) = []
started_in (Changed change message) = []

abbrev pub arrived_in : Event → List Report
arrived_in (Bus sent poll fault reply job heard) = []
arrived_in (Arrived report message kept) = report ∷ []
arrived_in (Changed change message) = []

-- the change at the panel that happens in an event
abbrev pub changed_in : Event → List Change
changed_in (Bus sent poll fault reply job heard) = []
changed_in (Arrived report message kept) = []
changed_in (Changed change message) = change ∷ []

-- all jobs that were accepted, all reports that arrived, and all changes that happened, in order
unfoldable pub jobs_in : List Event → List Job
jobs_in events = flat_map started_in events

unfoldable pub reports_in : List Event → List Report
reports_in events = flat_map arrived_in events

unfoldable pub changes_in : List Event → List Change
changes_in events = flat_map changed_in events

-- the reports on jobs of a worker, by this choice
abbrev pub reports_of : Choice → ℕ → List Report → List Report
reports_of ws worker reports = filter (λ r. worker_at ws r.job.work == worker) reports

-- the report that a step hands in, and those of all steps, in order
abbrev pub reported_by : Step → List Report
reported_by (step.Ask c fault) = []
reported_by (step.Collect fault) = []
reported_by (step.Arrive report) = report ∷ []
reported_by (step.Change change) = []

abbrev pub reported_in : List Step → List Report
reported_in steps = flat_map reported_by steps
