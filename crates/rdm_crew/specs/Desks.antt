-- The bus thread's side of the report lane: what it has taken, and what has arrived on the bus.
use Rattle.std.specs.Prelude.{◌≡◌, ℕ, ◌<◌, List, [], ◌∷◌, ◌++◌, Result, Ok, Err}
use Rattle.rdm_params.specs.Jobs.Work.{Choice}
use Rattle.rdm_responder.specs.declared.report.Report.{Report}
use Rattle.rdm_responder.specs.Lawful.{MayArrive}
use Rattle.rdm_responder.specs.Rules.{account_of}
use Rattle.rdm_bus.specs.declared.event.Event.{Event}
use Rattle.rdm_bus.specs.declared.event.Step.{Step}
use Rattle.rdm_bus.specs.declared.event.Step.TheVariants.{Arrive}
use Rattle.rdm_bus.specs.BusRun.{Start, IsPlayed, after_all}
use Rattle.rdm_bus.specs.Systems.{IsTrace}
use Rattle.rdm_lane.specs.declared.taken.Taken.{Taken}
use Rattle.rdm_lane.specs.declared.taken.Taken.TheVariants.{Item, Mark, Empty, Closed}
use Rattle.rdm_lane.specs.Ends.{IsOver, IsSameTake}
use Rattle.rdm_lane.specs.Lane.{items_of}
use Rattle.rdm_crew.specs.declared.bus.desk.Desk.{Desk}
use Rattle.rdm_crew.specs.declared.bus.desk.Drawn.{Drawn}
use Rattle.rdm_crew.specs.declared.bus.desk.Drawn.TheVariants as drawn
use Rattle.rdm_crew.specs.declared.bus.stop.Stop.{Stop}
use Rattle.rdm_crew.specs.declared.bus.stop.Stop.TheVariants as stop
use Rattle.rdm_bus.specs.Happened.{jobs_in, reports_in}
use Rattle.rdm_crew.specs.RunTrace.{AreArrivals, AreLast}
use Rattle.rdm_crew.specs.Setups.{switched_on}

-- where the bus stood at first, and where it stands
abbrev pub began : Desk → Start
began d = switched_on d.setup.value

abbrev pub stands_at : Desk → Start
stands_at d = after_all (began d) d.system.trace

-- which worker has which jobs: what the device's profile says
abbrev pub chosen : Desk → Choice
chosen d = d.setup.value.profile.workers

-- the trace is a run of the bus
abbrev pub HasRun : Desk → Type 0
HasRun d = (steps : List Step) × IsTrace (began d) steps d.system

-- the items among them are of producers 0 and 1
abbrev pub OfTwo : List (Taken Report) → Type 0
OfTwo [] = Unit {0}
OfTwo (Item p n r ∷ es) = (p < 2) × OfTwo es
OfTwo (Mark p ∷ es) = OfTwo es
OfTwo (Empty ∷ es) = OfTwo es
OfTwo (Closed ∷ es) = OfTwo es

-- The reports that were taken are those that have arrived, in order.
pub record IsDrawn (d : Desk) : Type 0 where
  pub run : HasRun d
  pub posts : d.reports.posts ≡ 2
  pub two : OfTwo d.reports.taken
  pub all : items_of d.reports.taken ≡ reports_in d.system.trace

-- A report was taken that may not arrive: those before it have arrived, and those after it haven't.
pub record IsSuspect (d : Desk) : Type 0 where
  pub run : HasRun d
  pub posts : d.reports.posts ≡ 2
  pub before : List (Taken Report)
  pub producer : ℕ
  pub number : ℕ
  pub report : Report
  pub after : List (Taken Report)
  pub taken : d.reports.taken ≡ before ++ Item producer number report ∷ after
  pub two : OfTwo before
  pub below : producer < 2
  pub all : items_of before ≡ reports_in d.system.trace
  pub astray : ¬ MayArrive (account_of (stands_at d).history) report

-- it is the same run, and the same end of the report lane
abbrev pub IsSameDesk : Desk → Desk → Type 0
IsSameDesk d e = (e.setup ≡ d.setup) × IsSameTake d.reports e.reports

-- one report has arrived since
abbrev pub HasArrived : Desk → Desk → Type 0
HasArrived d e = (event : Event) × (r : Report) × (e.system.trace ≡ d.system.trace ++ event ∷ []) × IsPlayed (stands_at d) (Arrive r) event

-- reports have arrived since, and nothing else
abbrev pub HaveArrived : Desk → Desk → Type 0
HaveArrived d e = (es : List Event) × (e.system.trace ≡ d.system.trace ++ es) × AreArrivals (stands_at d) es

-- .. until no job is outstanding
abbrev pub HaveSettled : Desk → Desk → Type 0
HaveSettled d e = (es : List Event) × (e.system.trace ≡ d.system.trace ++ es) × AreLast (stands_at d) es

-- why the drawing of reports ends early
abbrev pub IsCutShort : Desk → Desk → Stop → Type 0
IsCutShort d e stop.OutOfMemory = Unit {0}
IsCutShort d e stop.Unsettled = Unit {0}
IsCutShort d e stop.Astray = IsSuspect e × (jobs_in e.system.trace ≡ jobs_in d.system.trace)
IsCutShort d e stop.Reserved = ⊥
IsCutShort d e stop.TooLong = ⊥

-- how often it found no report
abbrev pub nones_in : Result Drawn Stop → ℕ
nones_in (Ok drawn.Empty) = 1
nones_in (Ok drawn.Arrived) = 0
nones_in (Ok drawn.Mark) = 0
nones_in (Ok drawn.Closed) = 0
nones_in (Err stop) = 0

-- what a draw comes to
abbrev pub AfterDraw : Desk → Desk → Result Drawn Stop → Type 0
AfterDraw d e (Ok drawn.Arrived) = IsDrawn e × HasArrived d e
AfterDraw d e (Ok drawn.Mark) = IsDrawn e × (e.system ≡ d.system)
AfterDraw d e (Ok drawn.Empty) = IsDrawn e × (e.system ≡ d.system)
AfterDraw d e (Ok drawn.Closed) = IsDrawn e × (e.system ≡ d.system) × IsOver e.reports
AfterDraw d e (Err stop.OutOfMemory) = Unit {0}
AfterDraw d e (Err stop.Astray) = IsSuspect e × (e.system ≡ d.system)
AfterDraw d e (Err stop.Unsettled) = ⊥
AfterDraw d e (Err stop.Reserved) = ⊥
AfterDraw d e (Err stop.TooLong) = ⊥
