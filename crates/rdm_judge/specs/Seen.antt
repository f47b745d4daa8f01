-- What the replies of a capture say of the fixture that gave them, and which later reply breaks a rule by that, whatever happened to the
-- fixture before and between its requests. E1.20 sections 6.2.8, 7.6 and 10.3.1.
use Rattle.std.specs.Prelude.{◌≡◌, ◌≢◌, ℕ, ◌-◌, Bool, true, false, ◌==◌, ◌&&◌, not, nat_le, List, [], ◌∷◌, ◌++◌, fold, Option, Some, None, ◌⊎◌, if◌then◌else◌}
use Rattle.std.specs.List.{list_all}
use Rattle.std.specs.Str.{bytes_eq}
use Rattle.rdm_frame.specs.declared.uid.Uid.{Uid}
use Rattle.rdm_frame.specs.declared.frame.Frame.{Frame}
use Rattle.rdm_frame.specs.declared.message.Message.{Message}
use Rattle.rdm_frame.specs.Addressing.{same_uid}
use Rattle.rdm_frame.specs.Discovery.{branch_reply}
use Rattle.rdm_frame.specs.Reading.{frame_in}
use Rattle.rdm_responder.specs.History.{Event, Heard, Arrived, Changed, Placed, Noted, Restored, Dropped, History, then_event}
use Rattle.rdm_responder.specs.Requests.{request_of}
use Rattle.rdm_responder.specs.Rules.{reply_of}
use Rattle.rdm_judge.specs.declared.asked.Asked.{Asked}
use Rattle.rdm_judge.specs.declared.asked.Asked.TheVariants.{Branch, Mute, Command, Nothing}
use Rattle.rdm_judge.specs.declared.seen.Seen.{Seen}
use Rattle.rdm_judge.specs.declared.verdict.Verdict.{Verdict}
use Rattle.rdm_judge.specs.declared.verdict.Verdict.TheVariants.{Wrong}
use Rattle.rdm_judge.specs.declared.verdict.Rule.{Rule}
use Rattle.rdm_judge.specs.declared.verdict.Rule.TheVariants as rules
use Rattle.rdm_judge.specs.Judging.{OfOneFixture, asked_with, fetches, is_wrong, judged, rule_unless}

-- A request, and the reply that was seen to it, if one was. A capture is a list of these, in order of time.
pub record Exchange : Type 0 where
  pub request : List ℕ
  pub reply : Option (List ℕ)

-- ---- the captures of a fixture

-- What a capture doesn't show: jobs end, somebody turns the menu, the firmware places, notes and restores. All bytes that the fixture may
-- have heard are in the capture. It isn't switched off meanwhile, since a history begins when it is switched on. Its firmware drops no
-- message: a count that falls by itself is one of the faults that the judge looks for.
abbrev pub is_unseen : Event → Bool
is_unseen (Heard bytes) = false
is_unseen (Arrived report) = true
is_unseen (Changed change) = true
is_unseen (Placed sub pid bytes) = true
is_unseen (Noted entry) = true
is_unseen (Restored image) = true
is_unseen Dropped = false

-- and then these happen
abbrev pub then_events : History → List Event → History
then_events h events = record h { events = h.events ++ events }

-- Nothing of a reply was seen, or bytes that are neither a frame nor this fixture's answer to DISC_UNIQUE_BRANCH: they were altered on
-- their way, or several devices answered at once.
abbrev pub IsLost : Uid → Option (List ℕ) → Type 0
IsLost own None = Unit {0}
IsLost own (Some t) = (frame_in t ≡ None) × (t ≢ branch_reply own)

-- A capture of a fixture with a history before it. Before each request, some unseen events happen. Then the fixture misses the request, or
-- hears it and replies by the reply rules; the reply is seen as it is, or it is lost.
abbrev pub IsCaptureOf : History → List Exchange → Type 0
IsCaptureOf h [] = Unit {0}
IsCaptureOf h (x ∷ xs) =
    (events : List Event) × (list_all is_unseen events ≡ true)
    × ((IsLost h.setup.uid x.reply × IsCaptureOf (then_events h events) xs)
    ⊎ (((x.reply ≡ reply_of (then_events h events) x.request) ⊎ IsLost h.setup.uid x.reply)
    × IsCaptureOf (then_event (then_events h events) (Heard x.request)) xs))

-- ---- what is known of a fixture

-- nothing is
abbrev pub nothing_seen : Seen
nothing_seen = record { muted = false; last = None; waiting = 0 }

-- the frame that a reply is
abbrev pub frame_seen : Option (List ℕ) → Option Frame
frame_seen None = None
frame_seen (Some t) = frame_in t

-- The response of the fixture to a request, if this frame is it: it comes from the fixture, with the transaction number of the request.
abbrev pub response_to : Uid → Frame → Option Frame → Option Frame
response_to own f None = None
response_to own f (Some r) = if same_uid r.src own && (r.tn == f.tn) then Some r else None

-- A fixture that has answered DISC_MUTE is muted. It stays so until a DISC_UN_MUTE that it may have heard. Section 7.6.
abbrev pub muted_after : Bool → Frame → Option Frame → Bool
muted_after muted f None = muted && (f.pid == 0x0002)
muted_after muted f (Some r) = f.pid == 0x0002

-- a GET of QUEUED_MESSAGE. Section 10.3.1.
abbrev pub polls : Frame → Bool
polls f = (f.class == 0x20) && (f.pid == 0x0020)

-- a GET of QUEUED_MESSAGE or STATUS_MESSAGES that asks the root for the last message again. Table A-4.
abbrev pub asks_again : Frame → Bool
asks_again f = fetches f && (f.sub == 0) && bytes_eq f.body (0x01 ∷ [])

-- the message that a response carries
abbrev pub message_of : Frame → Message
message_of r = record { class = r.class; pid = r.pid; sub = r.sub; body = r.body }

-- the last message, where a response that is an ACK (0) carries it
abbrev pub told : Option Message → Option Frame → Option Message
told last None = last
told last (Some r) = if r.port == 0 then Some (message_of r) else last

-- The last message is known from an ACK of QUEUED_MESSAGE or STATUS_MESSAGES on, until the fixture may have given another. Sections 10.3.1
-- and 10.3.2.
abbrev pub last_after : Option Message → Frame → Option Frame → Option Message
last_after last f response = if fetches f then told (if asks_again f then last else None) response else last

-- How many messages wait at least, once the fixture may have heard a request: QUEUED_MESSAGE takes one of them, unless it asks for the
-- last message again.
abbrev pub fewest : ℕ → Frame → ℕ
fewest waiting f = if polls f && not (asks_again f) then waiting - 1 else waiting

-- A response tells how many wait, or 255 if there are more. Section 6.2.8.
abbrev pub waiting_after : ℕ → Frame → Option Frame → ℕ
waiting_after waiting f None = fewest waiting f
waiting_after waiting f (Some r) = r.count

-- what is known after a request with which this is asked, and the response to it
abbrev pub after_request : Seen → Frame → Asked → Option Frame → Seen
after_request s f (Branch lower upper) response = s
after_request s f Mute response = record s { muted = muted_after s.muted f response }
after_request s f Command response = record s { last = last_after s.last f response; waiting = waiting_after s.waiting f response }
after_request s f Nothing response = s

abbrev pub after_frame : Uid → Seen → Option Frame → Option (List ℕ) → Seen
after_frame own s None reply = s
after_frame own s (Some f) reply = after_request s f (asked_with (request_of own f)) (response_to own f (frame_seen reply))

abbrev pub after_exchange : Uid → Seen → Exchange → Seen
after_exchange own s x = after_frame own s (frame_in x.request) x.reply

-- what is known after a capture
abbrev pub seen_in : Uid → List Exchange → Seen
seen_in own xs = fold (after_exchange own) nothing_seen xs

-- ---- the rule that a reply breaks by what is known

abbrev pub same_message : Message → Message → Bool
same_message m n = (m.class == n.class) && (m.pid == n.pid) && (m.sub == n.sub) && bytes_eq m.body n.body

-- a response that is an ACK with another message than the last one
abbrev pub is_another : Option Message → Frame → Bool
is_another None r = false
is_another (Some m) r = (r.port == 0) && not (same_message m (message_of r))

abbrev pub is_branch_reply : Uid → Option (List ℕ) → Bool
is_branch_reply own None = false
is_branch_reply own (Some t) = bytes_eq t (branch_reply own)

-- of a response to a GET or a SET
abbrev pub rule_of : Seen → Frame → Option Frame → Option Rule
rule_of s f None = None
rule_of s f (Some r) =
    if asks_again f && is_another s.last r then Some rules.LastMessage
    else rule_unless (nat_le (fewest s.waiting f) r.count) rules.Count

-- of a reply to a request with which this is asked
abbrev pub rule_on : Seen → Uid → Frame → Asked → Option (List ℕ) → Option Rule
rule_on s own f (Branch lower upper) reply = rule_unless (not (s.muted && is_branch_reply own reply)) rules.Muted
rule_on s own f Mute reply = None
rule_on s own f Command reply = rule_of s f (response_to own f (frame_seen reply))
rule_on s own f Nothing reply = None

abbrev pub rule_at : Seen → Uid → Option Frame → Option (List ℕ) → Option Rule
rule_at s own None reply = None
rule_at s own (Some f) reply = rule_on s own f (asked_with (request_of own f)) reply

-- ---- the verdict

-- A reply that breaks a rule by what is known is wrong, too.
abbrev pub with_rule : Verdict → Option Rule → Verdict
with_rule verdict None = verdict
with_rule (Wrong other) (Some rule) = Wrong other
with_rule _ (Some rule) = Wrong rule

-- The verdict on a reply, beside what a fixture with this history replies, where this is known of the fixture that gave it.
unfoldable pub judged_with : Seen → History → Exchange → Verdict
judged_with s h x = with_rule (judged h x.request x.reply) (rule_at s h.setup.uid (frame_in x.request) x.reply)

-- No reply in a capture of a fixture is judged wrong, by what the capture showed before it, whatever happened to the fixture before and
-- meanwhile, and whatever history of it the judge knows.
abbrev pub NoCaptureIsWrong : Type 0
NoCaptureIsWrong =
    (h k : History) (before : List Exchange) (x : Exchange) → OfOneFixture h k → IsCaptureOf k (before ++ x ∷ [])
    → is_wrong (judged_with (seen_in h.setup.uid before) h x) ≡ false
