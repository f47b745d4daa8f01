-- A queue of messages that one collector polls over a bus that loses replies, and what the collector's record then says.
-- All that matters of the bus here is of each poll whether the device replied, and whether the collector heard the reply.
-- E1.20 section 10.3.1.
use Rattle.std.specs.Prelude.{◌≡◌, ℕ, ◌+◌, ◌≤◌, min, Bool, true, false, not, List, [], ◌∷◌, ◌++◌, length, take, drop, slice_get, fold, Option, Some, None, IfSome}
use Rattle.std.specs.Option.{option_to_list}
use Rattle.std.specs.List.{flat_map}
use Rattle.rdm_frame.specs.declared.message.Message.{Message}
use Rattle.rdm_collector.specs.Recording.{PrefixLaw, NoLossLaw}

-- What the laws read of a device: the messages that ever entered its queue, in order, without those that were replaced while
-- they waited; how many of them it gave; and its last answer.
pub record Queue : Type 0 where
  pub arrived : List Message
  pub given : ℕ
  pub last : Message

-- What happens: a message enters the queue; the messages that wait are replaced by others, where a device lets a newer one
-- take the place of one that nobody has fetched; or the collector polls. Of a poll there is whether it asks for the last
-- message again, the message in the device's reply, if it replies, and whether the collector hears the reply.
pub data Event : Type 0 where
  Arrived : Message → Event
  Replaced : (waiting : List Message) → Event
  Polled : (again : Bool) → (reply : Option Message) → (heard : Bool) → Event

-- A reply is the last answer again if that was asked for, else the first message that waits, and if none waits any
-- status message. If there is no reply, none is heard.
abbrev pub IsReply : Queue → Bool → Option Message → Bool → Type 0
IsReply q again None heard = heard ≡ false
IsReply q true (Some m) heard = m ≡ q.last
IsReply q false (Some m) heard = IfSome (slice_get q.arrived q.given) (λ next. m ≡ next)

-- The event may be next: a poll asks for the last message again exactly when the poll before it is unanswered.
abbrev pub IsNext : Queue → Bool → Event → Type 0
IsNext q unanswered (Arrived m) = Unit {0}
IsNext q unanswered (Replaced waiting) = Unit {0}
IsNext q unanswered (Polled again reply heard) = (again ≡ unanswered) × IsReply q again reply heard

-- the queue after an event: a new answer becomes the last one, and if a message waits, it is given; what was given stays,
-- whatever waits
abbrev pub after : Queue → Event → Queue
after q (Arrived m) = record q { arrived = q.arrived ++ m ∷ [] }
after q (Replaced waiting) = record q { arrived = take q.given q.arrived ++ waiting }
after q (Polled again None heard) = q
after q (Polled true (Some m) heard) = q
after q (Polled false (Some m) heard) = record q { given = min (q.given + 1) (length q.arrived); last = m }

-- whether the last poll is unanswered, after an event
abbrev pub unanswered_after : Bool → Event → Bool
unanswered_after unanswered (Arrived m) = unanswered
unanswered_after unanswered (Replaced waiting) = unanswered
unanswered_after unanswered (Polled again reply heard) = not heard

-- These events happen in turn, from a queue and a collector whose last poll is or isn't answered.
abbrev pub IsRun : Queue → Bool → List Event → Type 0
IsRun q unanswered [] = Unit {0}
IsRun q unanswered (e ∷ es) = IsNext q unanswered e × IsRun (after q e) (unanswered_after unanswered e) es

-- D, R and G of events: the messages of all replies, those of the replies that were heard, and those that were given
abbrev pub dispensed_by : Event → List Message
dispensed_by (Arrived m) = []
dispensed_by (Replaced waiting) = []
dispensed_by (Polled again reply heard) = option_to_list reply

abbrev pub recorded_by : Event → List Message
recorded_by (Arrived m) = []
recorded_by (Replaced waiting) = []
recorded_by (Polled again reply true) = option_to_list reply
recorded_by (Polled again reply false) = []

abbrev pub dispensed : List Event → List Message
dispensed es = flat_map dispensed_by es

abbrev pub recorded : List Event → List Message
recorded es = flat_map recorded_by es

abbrev pub given_between : Queue → Queue → List Message
given_between before now = drop before.given (take now.given now.arrived)

-- Both laws, of these events.
pub record Laws (start : Queue) (unanswered : Bool) (es : List Event) : Type 0 where
  pub prefix : PrefixLaw (fold unanswered_after unanswered es) (dispensed es) (recorded es)
  pub no_loss : NoLossLaw (fold unanswered_after unanswered es) (given_between start (fold after start es)) (recorded es)

-- The laws hold of any number of events in any order, from any queue, the first poll included: whichever requests and
-- replies are lost or altered, and however many in a row, and whatever is replaced while it waits.
abbrev pub LawsHold : Type 0
LawsHold =
    (start : Queue) (u : Bool) (es : List Event) → start.given ≤ length start.arrived → IsRun start u es → Laws start u es
