-- The next message and the last one: what QUEUED_MESSAGE and STATUS_MESSAGES are answered. E1.20 sections 10.3.1 and
-- 10.3.2.
use Rattle.std.specs.Prelude.{◌+◌, ◌==◌, ◌&&◌, Bool, true, false, List, [], ◌∷◌, ◌++◌, length, slice_set, take, drop, nat_lt, unwrap_or, if◌then◌else◌}
use Rattle.std.specs.List.{position, slice_get}
use Rattle.std.specs.Option.{option_map_or}
use Rattle.rdm_frame.specs.declared.message.Message.{Message}
use Rattle.rdm_commands.specs.declared.jobs.ask.Ask.{Ask}
use Rattle.rdm_commands.specs.declared.jobs.ask.Ask.TheVariants.{None, Last, Advisory, Warning, Error}
use Rattle.rdm_outbox.specs.Account.{Account}
use Rattle.rdm_outbox.specs.Statuses.{status_message, status_now, after_status_now}

-- whether the last message is asked for again, which is STATUS_GET_LAST_MESSAGE of table A-4
abbrev pub is_last : Ask → Bool
is_last None = false
is_last Last = true
is_last Advisory = false
is_last Warning = false
is_last Error = false

-- the last of these messages, or the first argument if there is none
abbrev pub last_or : Message → List Message → Message
last_or m [] = m
last_or m (x ∷ xs) = last_or x xs

-- The last message: the last answer that was no repeat. Before the first it is the empty status message.
abbrev pub last_of : Account → Message
last_of a = last_or (status_message []) a.answers

-- The next message: the first that waits, which is the one after those that have left the queue. If none waits, it is the
-- status message.
abbrev pub next_of : Account → Ask → Message
next_of a ask = unwrap_or (slice_get a.arrived a.gone) (status_now a ask)

abbrev pub after_next : Account → Ask → Account
after_next a ask =
    if nat_lt a.gone (length a.arrived) then record a { gone = a.gone + 1; answers = a.answers ++ next_of a ask ∷ [] }
    else after_status_now a ask

-- The account after a message was posted that tells of no job. No job ends by it.
abbrev pub after_post : Account → Message → Account
after_post a message = record a { arrived = a.arrived ++ message ∷ [] }

-- whether two messages tell of the same: of one parameter, of one device, in one class
abbrev pub tell_of_same : Message → Message → Bool
tell_of_same m n = (m.class == n.class) && (m.pid == n.pid) && (m.sub == n.sub)

-- these messages, with this one in the place of the first that tells of the same, or behind them if none does
abbrev pub in_place_of_same : Message → List Message → List Message
in_place_of_same message ms = option_map_or (λ i. slice_set ms i message) (position (tell_of_same message) ms) (ms ++ message ∷ [])

-- The account after a message was posted that takes the place of one which still waits and tells of the same, if one does.
abbrev pub after_post_newest : Account → Message → Account
after_post_newest a message = record a { arrived = take a.gone a.arrived ++ in_place_of_same message (drop a.gone a.arrived) }

-- The account after the firmware dropped the oldest message that waits. It was no answer, so no controller knows it. If none
-- waits, nothing changes.
abbrev pub after_drop : Account → Account
after_drop a = if nat_lt a.gone (length a.arrived) then record a { gone = a.gone + 1 } else a

-- the answer to QUEUED_MESSAGE, and the account after it
abbrev pub dispensed : Account → Ask → Message
dispensed a ask = if is_last ask then last_of a else next_of a ask

abbrev pub after_dispense : Account → Ask → Account
after_dispense a ask = if is_last ask then a else after_next a ask

-- the answer to STATUS_MESSAGES, and the account after it
abbrev pub status_dispensed : Account → Ask → Message
status_dispensed a ask = if is_last ask then last_of a else status_now a ask

abbrev pub after_status : Account → Ask → Account
after_status a ask = if is_last ask then a else after_status_now a ask
