-- What stands behind a handle, and what C is told of a responder.
use Rattle.std.specs.Prelude.{◌≡◌, ◌≢◌, ℕ, ◌==◌, ◌++◌, if◌then◌else◌, Bool, true, false, List, drop, take, length, nat_lt, Option, Some, None}
use Rattle.rdm_frame.specs.declared.message.Message.{Message}
use Rattle.rdm_frame.specs.Nacks.{nack_code}
use Rattle.rdm_commands.specs.declared.panel.Change.{Change}
use Rattle.rdm_commands.specs.declared.verdict.Verdict.{Verdict}
use Rattle.rdm_commands.specs.declared.verdict.Verdict.TheVariants.{Reply, Refuse}
use Rattle.rdm_params.specs.Commands.Panel.{change_message}
use Rattle.rdm_responder.specs.History.{History, Event, Arrived, then_event}
use Rattle.rdm_responder.specs.Lawful.{IsLawful}
use Rattle.rdm_responder.specs.declared.report.Report.{Report}
use Rattle.rdm_responder.specs.Laws.{maker_of, values_of}
use Rattle.rdm_outbox.specs.Jobs.{has_place}
use Rattle.rdm_responder.specs.Runs.{outbox_of}
use Rattle.rdm_responder.specs.Rules.{account_of, answered}
use Rattle.rdm_responder.specs.StandsFor.{StandsFor}
use Rattle.rdm_saved.specs.SavedText.{saved_text}
use Rattle.rdm_c.specs.declared.endpoint.Endpoint.{Endpoint}
use Rattle.rdm_c.specs.declared.job.JobNumbers.{JobNumbers}
use Rattle.rdm_c.specs.Jobs.{IsAsTold}
use Rattle.rdm_c.specs.declared.endpoint.Endpoint.TheVariants.{Responder, Collector, Searcher}
use Rattle.rdm_c.specs.declared.status.Status.{Status}
use Rattle.rdm_c.specs.declared.status.Status.TheVariants as status
use Rattle.rdm_c.specs.Statuses.{code_of}
use Rattle.rdm_collector.specs.AnyDevice.Collecting.{DeviceState}
use Rattle.rdm_c.specs.SearchStates.{SearchState}

-- It is a responder, and stands for this history.
abbrev pub IsFor : Endpoint → History → Type 0
IsFor (Responder running) h = StandsFor running.responder h
IsFor (Collector collector) h = ⊥
IsFor (Searcher search) h = ⊥

-- the handle holds a responder that stands for this history
abbrev pub HeldFor : Option Endpoint → History → Type 0
HeldFor None h = ⊥
HeldFor (Some endpoint) h = IsFor endpoint h

abbrev pub is_responder : Endpoint → Bool
is_responder (Responder running) = true
is_responder (Collector collector) = false
is_responder (Searcher search) = false

-- whether the handle holds a responder
abbrev pub holds_responder : Option Endpoint → Bool
holds_responder None = false
holds_responder (Some endpoint) = is_responder endpoint

-- the collector, if it is one
abbrev pub collector_of : Endpoint → Option DeviceState
collector_of (Responder running) = None
collector_of (Collector collector) = Some collector
collector_of (Searcher search) = None

-- the collector that the handle holds, if it holds one
abbrev pub held_collector : Option Endpoint → Option DeviceState
held_collector None = None
held_collector (Some endpoint) = collector_of endpoint

-- the search, if it is one
abbrev pub search_of : Endpoint → Option SearchState
search_of (Responder running) = None
search_of (Collector collector) = None
search_of (Searcher search) = Some search

-- the search that the handle holds, if it holds one
abbrev pub held_search : Option Endpoint → Option SearchState
held_search None = None
held_search (Some endpoint) = search_of endpoint

-- what a call comes to that nothing else can keep from being carried out
abbrev pub found : Bool → Status
found true = status.Done
found false = status.Absent

-- what C is told of whether something is so: 1 or 0
abbrev pub flag : Bool → ℕ
flag holds = if holds then 1 else 0

-- The report of a job may come after this history, and each of the numbers that C has of the job is as `step` told it.
abbrev pub MayReport : History → JobNumbers → Report → Type 0
MayReport h n report = IsLawful (then_event h (Arrived report)) × IsAsTold (account_of h).parameters.profile n report.job

-- whether what happens leaves a status entry that is kept
abbrev pub is_noted : History → Event → Bool
is_noted h event = nat_lt (length (outbox_of h).noted) (length (outbox_of (then_event h event)).noted)

-- the bytes at the front, if this is 1
abbrev pub told : ℕ → ℕ → List ℕ → Option (List ℕ)
told there count bytes = answered (there == 1) (take count bytes)

-- What a GET answers, as C is told it: the value at the front, or the reason of the refusal, or that there is no value
-- since the command starts a job or fetches a message.
abbrev pub GetTold : ℕ → ℕ → List ℕ → ℕ → Verdict → Type 0
GetTold code count value reason (Reply body) = (code ≡ code_of status.Done) × (count ≡ length body) × (take count value ≡ body)
GetTold code count value reason (Refuse nack) = (code ≡ code_of status.Refused) × (reason ≡ nack_code nack)
GetTold code count value reason _ = code ≡ code_of status.NoValue

-- what C is told of what is kept of a parameter: it stands at the front; or there is no such parameter
abbrev pub KeptTold : ℕ → ℕ → List ℕ → Option (List ℕ) → Type 0
KeptTold code count value None = code ≡ code_of status.NotStored
KeptTold code count value (Some bytes) = (code ≡ code_of status.Done) × (count ≡ length bytes) × (take count value ≡ bytes)

-- What `save` leaves of the bytes that it is lent: if it is done, the image of so many bytes at the front, and behind it what was there;
-- else all that was there.
abbrev pub LeavesBytes : Option Endpoint → ℕ → ℕ → List ℕ → List ℕ → Type 0
LeavesBytes held code count before after =
    ((h : History) → HeldFor held h → code ≡ code_of status.Done → after ≡ saved_text (maker_of h) (values_of h) ++ drop count before)
    × (code ≢ code_of status.Done → after ≡ before)

abbrev pub in_range_told : Option Message → Status
in_range_told None = status.OutOfRange
in_range_told (Some message) = status.Done

-- What a change at the menu comes to: there is no room for its message; or it is out of range, and changes nothing; or it is
-- made.
abbrev pub changed : History → Change → Status
changed h c = if has_place (outbox_of h) then in_range_told (change_message (account_of h).parameters c) else status.NoRoom
