-- When a system is what a run of the bus comes to.
use Rattle.std.specs.Prelude.{◌≡◌, List, nat_lt, length, Option, Some, None, if◌then◌else◌}
use Rattle.std.specs.List.{AllByRecursion}
use Rattle.rdm_frame.specs.declared.message.Message.{Message}
use Rattle.rdm_responder.specs.History.{History}
use Rattle.rdm_responder.specs.Lawful.{MayArrive, MayChange}
use Rattle.rdm_responder.specs.Rules.{account_of}
use Rattle.rdm_responder.specs.StandsFor as responder
use Rattle.rdm_responder.specs.StandsFor.{StandsFor}
use Rattle.rdm_bus.specs.declared.event.Event.{Event}
use Rattle.rdm_bus.specs.declared.event.Step.{Step}
use Rattle.rdm_bus.specs.declared.event.Step.TheVariants.{Ask, Collect, Arrive, Change}
use Rattle.rdm_bus.specs.declared.system.PlayError.{PlayError}
use Rattle.rdm_bus.specs.declared.system.PlayError.TheVariants.{Reserved, TooLong}
use Rattle.rdm_collector.specs.Requests.{is_reserved}
use Rattle.rdm_collector.specs.Collecting.{State}
use Rattle.rdm_bus.specs.BusRun.{Start, controller_at, after_all, IsBusRun, IsAlteredInVain}
use Rattle.rdm_bus.specs.BusLaws.{recorded}

-- What a contract sees of a system: its device, its controller, and what happened.
pub record Played : Type 0 where
  pub responder : responder.State
  pub collector : State
  pub trace : List Event

-- where a bus stands with a device of this history and this controller
abbrev pub start_of : History → State → Start
start_of h c = record { history = h; uid = c.uid; target = c.target; want = c.want; tn = c.tn; unanswered = c.unanswered }

-- The device and the controller are there where the bus stands, and this was recorded.
pub record Stands (device : responder.State) (collector : State) (at : Start) (messages : List Message) : Type 0 where
  pub responder : StandsFor device at.history
  pub collector_is : collector ≡ record (controller_at at) { recorded = messages }

-- The trace is a run of the bus from this start and of these steps. The device and the controller are what it comes to: the
-- record has the messages of all replies that were heard. What was altered was in vain.
pub record IsTrace (start : Start) (steps : List Step) (s : Played) : Type 0 where
  pub run : IsBusRun start steps s.trace
  pub stands : Stands s.responder s.collector (after_all start s.trace) (recorded s.trace)
  pub altered : AllByRecursion IsAlteredInVain s.trace

-- Why a step is never played: its parameter ID is reserved; else its data don't fit a frame.
abbrev pub refusal_in : Step → Option PlayError
refusal_in (Ask c fault) = if is_reserved c.pid then Some Reserved else (if nat_lt 231 (length c.load) then Some TooLong else None)
refusal_in (Collect fault) = None
refusal_in (Arrive report) = None
refusal_in (Change change) = None

-- A report may not arrive, whatever has happened to the device.
abbrev pub IsAstray : responder.State → Step → Type 0
IsAstray device (Arrive report) = (h : History) → StandsFor device h → ¬ MayArrive (account_of h) report
IsAstray device _ = ⊥

-- A value is to be changed, and there is no room for a message, whatever has happened to the device.
abbrev pub HasNoRoom : responder.State → Step → Type 0
HasNoRoom device (Change change) = (h : History) → StandsFor device h → ¬ MayChange (account_of h)
HasNoRoom device _ = ⊥
