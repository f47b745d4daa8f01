-- Two wrong devices break the prefix law, each in a run of two or three polls.
use Rattle.std.proofs.Common.{◌≡◌, Bool, true, false, not, [], ◌∷◌, Option, Some, None, refl, sym, ap, subst}
use Rattle.std.specs.Prelude.{slice_get, unwrap_or, IfSome}
use Rattle.rdm_frame.specs.declared.message.Message.{Message}
use Rattle.rdm_outbox.specs.Statuses.{status_message}
use Rattle.rdm_bus.specs.Devices.{after_next, dequeues_again, forgets_empty_status, RightDeviceIsPolled, BreaksPrefixLaw}
use Rattle.rdm_collector.specs.Polling.{IsRun, after}
use Rattle.rdm_collector.specs.Polling.Event.{Arrived, Replaced, Polled}
use Rattle.rdm_collector.specs.Recording.{same_message}
use Rattle.rdm_collector.proofs.Refusals.{skipping, repeating_an_older_one}

-- ---- the device of the standard

is_first : (o : Option Message) (m other : Message) → m ≡ unwrap_or o other → IfSome o (λ next. m ≡ next)
is_first None m other e = tt
is_first (Some x) m other e = e

pub right_device_is_polled : RightDeviceIsPolled
right_device_is_polled q u [] run = tt
right_device_is_polled q u (Arrived m ∷ es) run = (tt, right_device_is_polled (after q (Arrived m)) u es run)
right_device_is_polled q u (Replaced waiting ∷ es) run = (tt, right_device_is_polled (after q (Replaced waiting)) u es run)
right_device_is_polled q u (Polled again None heard ∷ es) (a, h, run) =
    ((a, h), subst (λ (v : Bool). IsRun q v es) (ap not (sym h)) (right_device_is_polled q true es run))
right_device_is_polled q u (Polled true (Some m) heard ∷ es) (a, is, run) = ((a, is), right_device_is_polled q (not heard) es run)
right_device_is_polled q u (Polled false (Some m) heard ∷ es) (a, is, run) = (
  (a, is_first (slice_get q.arrived q.given) m (status_message []) is),
  subst (λ (v : Message). IsRun (record (after_next q) { last = v }) (not heard) es) (sym is) (right_device_is_polled (after_next q) (not heard) es run),
)

-- ---- the wrong ones

-- the response to a SET of LAMP_STATE, and to one of PERFORM_SELFTEST
abbrev lamp : Message
lamp = record { class = 0x31; pid = 0x0403; sub = 0; body = [] }

abbrev selftest : Message
selftest = record { class = 0x31; pid = 0x1020; sub = 0; body = [] }

others_differ : same_message lamp selftest ≡ false
unfolding same_message
others_differ = refl

status_differs : same_message lamp (status_message []) ≡ false
unfolding same_message
status_differs = refl

-- the first reply is lost, and the second has another message
pub dequeuing_breaks : BreaksPrefixLaw dequeues_again
dequeuing_breaks = (
  record { arrived = lamp ∷ selftest ∷ []; given = 0; last = status_message [] },
  Polled false (Some lamp) false ∷ Polled true (Some selftest) true ∷ [],
  (refl, refl, (refl, refl, tt)),
  skipping false lamp selftest others_differ,
)

-- the second reply is lost, and the third has the first message again
pub forgetting_breaks : BreaksPrefixLaw forgets_empty_status
forgetting_breaks = (
  record { arrived = lamp ∷ []; given = 0; last = status_message [] },
  Polled false (Some lamp) true ∷ Polled false (Some (status_message [])) false ∷ Polled true (Some lamp) true ∷ [],
  (refl, refl, (refl, refl, (refl, refl, tt))),
  repeating_an_older_one false lamp (status_message []) status_differs,
)
