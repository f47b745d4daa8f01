-- Devices that a collector polls: the one of E1.20 section 10.3.1, and two that are wrong.
use Rattle.std.specs.Prelude.{◌≡◌, ◌+◌, min, Bool, true, false, not, List, [], ◌∷◌, length, fold, slice_get, unwrap_or, nat_lt, if◌then◌else◌, Some, None}
use Rattle.rdm_frame.specs.declared.message.Message.{Message}
use Rattle.rdm_outbox.specs.Statuses.{status_message}
use Rattle.rdm_collector.specs.Polling.{Queue, Event, IsRun, after, unanswered_after, dispensed, recorded}
use Rattle.rdm_collector.specs.Polling.Event.{Arrived, Replaced, Polled}
use Rattle.rdm_collector.specs.Recording.{PrefixLaw}

-- What a device replies to a poll, which asks for the last message again or doesn't, and its queue afterwards.
pub record Device : Type 0 where
  pub reply : Queue → Bool → Message
  pub queue : Queue → Bool → Queue

-- The first message that waits; if none waits, the empty status message, since nothing has failed.
abbrev pub next_of : Queue → Message
next_of q = unwrap_or (slice_get q.arrived q.given) (status_message [])

-- the next message is given, and is the last one from now on
abbrev pub after_next : Queue → Queue
after_next q = record q { given = min (q.given + 1) (length q.arrived); last = next_of q }

-- The device of the standard: the last message again changes nothing.
abbrev pub right_device : Device
right_device = record {
  reply = λ q again. if again then q.last else next_of q;
  queue = λ q again. if again then q else after_next q;
}

-- Its last message takes a new message from the queue.
abbrev pub dequeues_again : Device
dequeues_again = record { reply = λ q again. next_of q; queue = λ q again. after_next q }

-- It doesn't keep an empty status message as its last message.
abbrev pub forgets_empty_status : Device
forgets_empty_status = record {
  reply = λ q again. if again then q.last else next_of q;
  queue = λ q again. if again then q else (if nat_lt q.given (length q.arrived) then after_next q else q);
}

-- These events happen in turn, with the replies of this device, if they aren't lost.
abbrev pub IsRunOf : Device → Queue → Bool → List Event → Type 0
IsRunOf d q unanswered [] = Unit {0}
IsRunOf d q unanswered (Arrived m ∷ es) = IsRunOf d (after q (Arrived m)) unanswered es
IsRunOf d q unanswered (Replaced waiting ∷ es) = IsRunOf d (after q (Replaced waiting)) unanswered es
IsRunOf d q unanswered (Polled again None heard ∷ es) = (again ≡ unanswered) × (heard ≡ false) × IsRunOf d q true es
IsRunOf d q unanswered (Polled again (Some m) heard ∷ es) =
    (again ≡ unanswered) × (m ≡ d.reply q again) × IsRunOf d (d.queue q again) (not heard) es

-- The runs of the device of the standard are runs of polls, of which both laws hold.
abbrev pub RightDeviceIsPolled : Type 0
RightDeviceIsPolled = (q : Queue) (unanswered : Bool) (es : List Event) → IsRunOf right_device q unanswered es → IsRun q unanswered es

-- Some run of a device breaks the prefix law.
abbrev pub BreaksPrefixLaw : Device → Type 0
BreaksPrefixLaw d =
    (q : Queue) × (es : List Event) × IsRunOf d q false es
    × ¬ PrefixLaw (fold unanswered_after false es) (dispensed es) (recorded es)
