-- What C is told of an event at the responder that a handle holds, and what the event comes to.
use Rattle.std.specs.Prelude.{◌≡◌, ◌↔◌, ℕ, Option}
use Rattle.rdm_responder.specs.History.{History, Event, then_event}
use Rattle.rdm_responder.specs.Lawful.{IsLawful}
use Rattle.rdm_c.specs.declared.endpoint.Endpoint.{Endpoint}
use Rattle.rdm_c.specs.declared.status.Status.TheVariants as status
use Rattle.rdm_c.specs.Statuses.{code_of}
use Rattle.rdm_c.specs.Endpoints.{HeldFor, flag, is_noted}

-- The call is done exactly if what C asks for is lawful after the history.
abbrev pub DoneIf : ℕ → Option Endpoint → (History → Type 0) → Type 0
DoneIf code held may = (h : History) → IsLawful h → HeldFor held h → ((code ≡ code_of status.Done) ↔ may h)

-- It is astray exactly if that isn't lawful.
abbrev pub AstrayUnless : ℕ → Option Endpoint → (History → Type 0) → Type 0
AstrayUnless code held may = (h : History) → IsLawful h → HeldFor held h → ((code ≡ code_of status.Astray) ↔ ¬ may h)

-- Once the call is done, the handle stands for the history with the event.
abbrev pub GoesOn : ℕ → Option Endpoint → Event → Option Endpoint → Type 0
GoesOn code before event after = (h : History) → HeldFor before h → code ≡ code_of status.Done → HeldFor after (then_event h event)

-- Once the call is done, C is told whether the event left a status entry that is kept: 1 or 0.
abbrev pub NotingTold : ℕ → Option Endpoint → Event → ℕ → Type 0
NotingTold code held event kept = (h : History) → HeldFor held h → code ≡ code_of status.Done → kept ≡ flag (is_noted h event)
