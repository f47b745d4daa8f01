-- The bus thread's ends of all three lanes, and what has happened on the bus.
use Rattle.std.specs.Prelude.{◌≡◌, ℕ, List, [], ◌∷◌, ◌++◌, Some}
use Rattle.rdm_commands.specs.declared.panel.Change.{Change}
use Rattle.rdm_outbox.specs.declared.job.Job.{Job}
use Rattle.rdm_outbox.specs.Jobs.{jobs_of}
use Rattle.rdm_bus.specs.declared.event.Event.{Event}
use Rattle.rdm_bus.specs.declared.event.Step.{Step}
use Rattle.rdm_bus.specs.declared.event.Step.TheVariants as bus
use Rattle.rdm_bus.specs.declared.system.PlayError.TheVariants as refused
use Rattle.rdm_bus.specs.BusRun.{IsPlayed}
use Rattle.rdm_bus.specs.Systems.{refusal_in}
use Rattle.rdm_lane.specs.Ends.{PostState, TakeState, IsSamePost, IsSameTake}
use Rattle.rdm_lane.specs.Lane.{items_from}
use Rattle.rdm_crew.specs.declared.bus.crew.Crew.{Crew}
use Rattle.rdm_crew.specs.declared.bus.desk.Desk.{Desk}
use Rattle.rdm_crew.specs.declared.step.CrewStep.{CrewStep}
use Rattle.rdm_crew.specs.declared.step.CrewStep.TheVariants.{Settle}
use Rattle.rdm_crew.specs.declared.bus.stop.Stop.{Stop}
use Rattle.rdm_crew.specs.declared.bus.stop.Stop.TheVariants as stop
use Rattle.rdm_crew.specs.declared.bus.stop.StopAt.{StopAt}
use Rattle.rdm_crew.specs.Desks.{chosen, IsDrawn, IsSuspect, IsSameDesk, stands_at}
use Rattle.rdm_bus.specs.Happened.{jobs_in, changes_in}
use Rattle.rdm_crew.specs.RunTrace.{AreLast, IsPiece, IsCut, refusal_at}
use Rattle.rdm_crew.specs.Stops.{IsReached}
use Rattle.rdm_crew.specs.Workers.{most}

-- the jobs of a worker that have started in the run, by the choice of the device's profile
abbrev pub jobs_for : ℕ → Desk → List Job
jobs_for worker d = jobs_of (chosen d) worker (jobs_in d.system.trace)

-- Each worker's jobs were put into its lane, in order.
abbrev pub HasJobs : Desk → PostState Job → PostState Job → Type 0
HasJobs d first second = (first.items ≡ jobs_for 0 d) × (second.items ≡ jobs_for 1 d)

-- The changes that were taken from the panel's lane are those that have happened, in order.
abbrev pub HasChanges : Desk → TakeState Change → Type 0
HasChanges d changes = (items_from 0 changes.taken ≡ changes_in d.system.trace) × (changes.posts ≡ 1)

-- What was put into the lanes and taken from them is what the trace tells.
pub record IsTied (c : Crew) : Type 0 where
  pub drawn : IsDrawn c.desk
  pub jobs : HasJobs c.desk c.first c.second
  pub first_limit : c.first.limit ≡ most
  pub second_limit : c.second.limit ≡ most

-- they are the same ends of the same lanes, in the same run
abbrev pub IsSameCrew : Crew → Crew → Type 0
IsSameCrew c d =
    IsSameDesk c.desk d.desk × IsSamePost c.first d.first × IsSamePost c.second d.second × IsSameTake c.changes d.changes

-- a command or a poll is played
abbrev pub IsSent : Step → Type 0
IsSent (bus.Ask c fault) = Unit {0}
IsSent (bus.Collect fault) = Unit {0}
IsSent (bus.Arrive r) = ⊥
IsSent (bus.Change change) = ⊥

-- .. and is the one event since
abbrev pub HasSent : Step → Desk → Desk → Type 0
HasSent step d e = (event : Event) × (e.system.trace ≡ d.system.trace ++ event ∷ []) × IsPlayed (stands_at d) step event

-- a change has happened since, and nothing else
abbrev pub HasChanged : Change → Desk → Desk → Type 0
HasChanged change d e =
    (event : Event) × (e.system.trace ≡ d.system.trace ++ event ∷ []) × IsPlayed (stands_at d) (bus.Change change) event

-- why a command or a poll isn't played to its end
abbrev pub IsRefused : Step → Stop → Type 0
IsRefused step stop.OutOfMemory = Unit {0}
IsRefused step stop.Reserved = refusal_in step ≡ Some refused.Reserved
IsRefused step stop.TooLong = refusal_in step ≡ Some refused.TooLong
IsRefused step stop.Unsettled = ⊥
IsRefused step stop.Astray = ⊥

-- the piece of a step has happened since
abbrev pub HasPlayed : CrewStep → Desk → Desk → Type 0
HasPlayed step d e = (piece : List Event) × (e.system.trace ≡ d.system.trace ++ piece) × IsPiece (stands_at d) step piece

-- All steps were played since: with any last piece the events are cut.
abbrev pub HavePlayed : List CrewStep → Desk → Desk → Type 0
HavePlayed steps d e =
    (es : List Event) × (e.system.trace ≡ d.system.trace ++ es)
    × ((last : List Event) → AreLast (stands_at e) last → IsCut (stands_at d) steps (es ++ last))

-- why a step isn't played to its end
abbrev pub IsStopped : CrewStep → Crew → Stop → Type 0
IsStopped step c stop.OutOfMemory = Unit {0}
IsStopped step c stop.Reserved = refusal_at step ≡ Some refused.Reserved
IsStopped step c stop.TooLong = refusal_at step ≡ Some refused.TooLong
IsStopped step c stop.Unsettled = (empties : ℕ) × (step ≡ Settle empties)
IsStopped step c stop.Astray = IsSuspect c.desk × HasJobs c.desk c.first c.second

-- Steps end early at this one: no step before it is refused, and it isn't played to its end.
abbrev pub AreStopped : List CrewStep → Crew → StopAt → Type 0
AreStopped steps c at = (step : CrewStep) × IsReached steps at.step step × IsStopped step c at.why
