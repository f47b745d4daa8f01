-- The lines that tell of a run.
use Rattle.std.specs.Prelude.{Bool, true, false, List, [], ◌∷◌, ◌++◌, map, Option, Some, None}
use Rattle.std.specs.Option.{option_to_list}
use Rattle.std.specs.List.{flat_map}
use Rattle.rdm_frame.specs.declared.message.Message.{Message as TheMessage}
use Rattle.rdm_params.specs.Jobs.Work.{Choice, worker_at}
use Rattle.rdm_outbox.specs.declared.job.Job.{Job as TheJob}
use Rattle.rdm_bus.specs.declared.event.Event.{Event}
use Rattle.rdm_bus.specs.declared.event.Event.TheVariants.{Bus, Arrived, Changed}
use Rattle.rdm_trace.specs.declared.line.JobName.{JobName}
use Rattle.rdm_trace.specs.declared.line.Line.{Line}
use Rattle.rdm_trace.specs.declared.line.Line.TheVariants.{Send, Reply, Job, Heard, Found, Arrive, Panel, Message, End}
use Rattle.rdm_script.specs.declared.found.Finds.{Finds}
use Rattle.rdm_script.specs.declared.found.Finds.TheVariants.{Told, Untold}
use Rattle.rdm_script.specs.Finds.{found_in}

-- a job is named by its worker, by this choice, and its number
abbrev pub name_of : Choice → TheJob → JobName
name_of ws job = record { worker = worker_at ws job.work; number = job.number }

-- a change is rejected if there is no message of it
abbrev pub is_refused : Option TheMessage → Bool
is_refused None = true
is_refused (Some message) = false

-- The lines of a transaction: what was sent and what goes wrong, what was replied, the job that started, and what the
-- controller took the reply for. A report has one line, and so has a change.
unfoldable pub event_lines : Choice → Event → List Line
event_lines ws (Bus sent poll fault reply job heard) =
    Send sent fault ∷ Reply reply ∷ [] ++ map (λ j. Job (name_of ws j)) (option_to_list job) ++ Heard heard ∷ []
event_lines ws (Arrived report message kept) = Arrive (name_of ws report.job) report.outcome ∷ []
event_lines ws (Changed change message) = Panel change (is_refused message) ∷ []

-- the same, and where finds are told a line of the fixture that the event finds, if it finds one
abbrev pub told_lines : Choice → Finds → Event → List Line
told_lines ws Untold event = event_lines ws event
told_lines ws Told event = event_lines ws event ++ map (λ uid. Found uid) (option_to_list (found_in event))

-- The lines of a whole trace of devices that have this choice of workers: those of each event in order, one for each recorded message
-- in order, and the last line.
abbrev pub trace_lines : Choice → Finds → List Event → List TheMessage → List Line
trace_lines ws finds events messages = flat_map (told_lines ws finds) events ++ map (λ m. Message m) messages ++ End ∷ []
