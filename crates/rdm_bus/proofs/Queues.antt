-- What each event makes of a device's queue.
use Rattle.std.proofs.Common.{◌≡◌, ◌≢◌, ℕ, zero, suc, ◌+◌, ◌<◌, ◌≤◌, ◌==◌, ◌&&◌, min, Bool, true, false, cond, List, [], ◌∷◌, ◌++◌, length, map, take, Option, Some, None, refl, sym, ap, ◌∙◌, arith, inl, inr, length-append}
use Rattle.std.specs.Prelude.{slice_get, IfSome, unwrap_or, nat_lt}
use Rattle.std.specs.List.{fold}
use Rattle.std.proofs.lemmas.Bool.{cases_Bool, cond-true, cond-false, ltb-true, ltb-false}
use Rattle.std.proofs.lemmas.List.{length-map, map-append, take-map, append_cancel_left}
use Rattle.std.proofs.lemmas.Option.{slice_get_past}
use Rattle.rdm_frame.specs.declared.uid.Uid.{Uid}
use Rattle.rdm_frame.specs.declared.frame.Frame.{Frame}
use Rattle.rdm_frame.specs.Addressing.{is_broadcast, is_addressed}
use Rattle.rdm_frame.specs.FrameText.{frame_text}
use Rattle.rdm_frame.specs.Reading.{frame_in}
use Rattle.rdm_frame.specs.declared.message.Message.{Message}
use Rattle.rdm_frame.specs.declared.status.Entry.{Entry as StatusEntry}
use Rattle.rdm_commands.specs.declared.jobs.ask.Ask.{Ask}
use Rattle.rdm_commands.specs.declared.jobs.ask.Ask.TheVariants as asks
use Rattle.rdm_commands.specs.declared.panel.Change.{Change}
use Rattle.rdm_commands.specs.declared.jobs.outcome.Outcome.{Outcome}
use Rattle.rdm_commands.specs.declared.jobs.outcome.Outcome.TheVariants.{Done, Reading, Failed}
use Rattle.rdm_commands.specs.declared.jobs.work.Work.{Work}
use Rattle.rdm_commands.specs.declared.verdict.Verdict.{Verdict}
use Rattle.rdm_commands.specs.declared.verdict.Verdict.TheVariants.{Reply, Start, Queue, Status, Clear, Refuse}
use Rattle.rdm_params.specs.Commands.Panel.{change_message}
use Rattle.rdm_params.specs.Commands.Commands.{got, got_by_row, answer_to_set, accepted}
use Rattle.rdm_params.specs.Device.Parameters.{Parameters}
use Rattle.rdm_params.specs.Table.Rows.{row_of, table}
use Rattle.rdm_params.specs.Jobs.Laws.{GetQueues, GetStatuses, SetFetchesNothing}
use Rattle.rdm_params.specs.Jobs.Work.{worker_at}
use Rattle.rdm_params.specs.Jobs.Commit.{committed}
use Rattle.rdm_outbox.specs.Account as outbox
use Rattle.rdm_outbox.specs.declared.job.Job.{Job}
use Rattle.rdm_outbox.specs.Jobs.{has_room, next_job, waiting_of, after_arrive}
use Rattle.rdm_outbox.specs.Messages.{is_last, last_or, last_of, next_of, after_next, after_post, after_post_newest, in_place_of_same, after_drop, dispensed, after_dispense}
use Rattle.rdm_outbox.specs.Statuses.{status_message, status_now, can_note}
use Rattle.rdm_outbox.proofs.Newest.{gone_newest}
use Rattle.rdm_responder.specs.declared.report.Report.{Report}
use Rattle.rdm_responder.specs.declared.report.Arrival.{Arrival}
use Rattle.rdm_responder.specs.History as history
use Rattle.rdm_responder.specs.History.{History, Event, then_event}
use Rattle.rdm_responder.specs.Requests.{Request, Ignored, Branch, Muting, Get, Set, request_of, request_in, discovery_of}
use Rattle.rdm_responder.specs.Rules.{Account, Response, ack_message, account_of, account_before, account_after, account_with, newest_only, after_message, after_entry, after_outcome, outbox_after, answer_to, answer_with, reply_with, message_count}
use Rattle.rdm_responder.specs.Runs.{IsArrival, IsChange, outbox_of}
use Rattle.rdm_responder.proofs.Accounts.{account_of-then}
use Rattle.rdm_collector.specs.Answers.{message_of}
use Rattle.rdm_bus.specs.BusLaws.{carried, queue_of}
use Rattle.rdm_collector.specs.Polling as polling
use Rattle.rdm_collector.specs.Polling.{IsReply}
use Rattle.rdm_collector.specs.Polling.Event.{Arrived, Replaced, Polled}
use Rattle.rdm_collector.specs.Requests as requests

-- the queue of an account
abbrev pub queue_at : outbox.Account → polling.Queue
queue_at b = record { arrived = map carried b.arrived; given = b.gone; last = carried (last_of b) }

-- Nothing arrived, nothing was given and nothing answered.
pub record IsStill (b b' : outbox.Account) : Type 0 where
  pub arrived : b'.arrived ≡ b.arrived
  pub given : b'.gone ≡ b.gone
  pub answers : b'.answers ≡ b.answers

still : (b : outbox.Account) → IsStill b b
still b = record { arrived = refl; given = refl; answers = refl }

abbrev queue : List Message → ℕ → Message → polling.Queue
queue ms n m = record { arrived = ms; given = n; last = m }

queue_is : (a a' : List Message) (n n' : ℕ) (m m' : List Message) → a' ≡ a → n' ≡ n → m' ≡ m → queue (map carried a') n' (carried (last_or (status_message []) m')) ≡ queue (map carried a) n (carried (last_or (status_message []) m))
queue_is a a' n n' m m' e1 e2 e3 = rw (e1, e2, e3) refl

pub queue_still : (b b' : outbox.Account) → IsStill b b' → queue_at b' ≡ queue_at b
queue_still b b' s = queue_is b.arrived b'.arrived b.gone b'.gone b.answers b'.answers s.arrived s.given s.answers

-- ---- what fetches nothing

reserve_still : (b : outbox.Account) (jobs : List Job) (c : Bool) → IsStill b (cond c (record b { accepted = jobs }) b)
reserve_still b jobs true = record { arrived = refl; given = refl; answers = refl }
reserve_still b jobs false = still b

verdict_still : (b : outbox.Account) (v : Verdict) → ((ask : Ask) → v ≡ Queue ask → ⊥) → ((ask : Ask) → v ≡ Status ask → ⊥) → IsStill b (outbox_after b v)
verdict_still b (Reply bytes) q s = still b
verdict_still b (Start work) q s = reserve_still b (b.accepted ++ next_job b work ∷ []) (has_room b work)
verdict_still b (Queue ask) q s = absurd (q ask refl)
verdict_still b (Status ask) q s = absurd (s ask refl)
verdict_still b Clear q s = record { arrived = refl; given = refl; answers = refl }
verdict_still b (Refuse nack) q s = still b

-- a request of which this holds whichever rule applies
of_either : (P : Request → Type 0) (c : Bool) (x y : Request) → P x → P y → P (cond c x y)
of_either P true x y p q = p
of_either P false x y p q = q

of_discovery : (P : Request → Type 0) (f : Frame) → P Ignored → ((lower upper : Uid) → P (Branch lower upper)) → ((m : Bool) → P (Muting m f)) → P (discovery_of f)
unfolding discovery_of
of_discovery P f i b m =
    of_either P (f.sub == 0) _ _
    (of_either P ((f.pid == 0x0001) && (length f.body == 12)) _ _ (b _ _)
    (of_either P ((f.pid == 0x0002) && (length f.body == 0)) _ _ (m true)
    (of_either P ((f.pid == 0x0003) && (length f.body == 0)) _ _ (m false) i)))
    i

of_request : (P : Request → Type 0) (own : Uid) (f : Frame) → P Ignored → ((lower upper : Uid) → P (Branch lower upper)) → ((m : Bool) → P (Muting m f)) → P (Get f) → P (Set f) → P (request_of own f)
of_request P own f i b m g s =
    of_either P (is_addressed own f.dst) _ _
    (of_either P (f.class == 0x10) _ _ (of_discovery P f i b m)
    (of_either P (f.class == 0x20) _ _ (of_either P (is_broadcast f.dst) _ _ i g) (of_either P (f.class == 0x30) _ _ s i)))
    i

-- a command that asks for neither QUEUED_MESSAGE nor STATUS_MESSAGES
pub command_still : GetQueues → GetStatuses → SetFetchesNothing → (a : Account) (own : Uid) (f : Frame) → f.pid ≢ 0x0020 → f.pid ≢ 0x0030 → IsStill a.outbox (account_with a (request_of own f)).outbox
command_still queues statuses sets a own f q s =
    of_request (λ r. IsStill a.outbox (account_with a r).outbox) own f (still a.outbox) (λ l u. still a.outbox) (λ m. record { arrived = refl; given = refl; answers = refl })
    (verdict_still a.outbox (got a.parameters f.sub f.pid f.body) (λ ask e. q (queues a.parameters f.sub f.pid f.body ask e).0) (λ ask e. s (statuses a.parameters f.sub f.pid f.body ask e)))
    (verdict_still a.outbox (answer_to_set a.parameters f.sub f.pid f.body) (λ ask e. (sets a.parameters f.sub f.pid f.body ask).0 e) (λ ask e. (sets a.parameters f.sub f.pid f.body ask).1 e))

-- ---- what no history brings about: that more have left the queue than arrived

abbrev IsWithin : outbox.Account → Type 0
IsWithin b = b.gone ≤ length b.arrived

within_still : (b b' : outbox.Account) → IsStill b b' → IsWithin b → IsWithin b'
within_still b b' s w = rw (s.arrived, s.given) w

within_either : (c : Bool) (b b' : outbox.Account) → IsWithin b → IsWithin b' → IsWithin (cond c b b')
within_either true b b' w w' = w
within_either false b b' w w' = w'

within_if : (c : Bool) (b b' : outbox.Account) → (c ≡ true → IsWithin b) → IsWithin b' → IsWithin (cond c b b')
within_if true b b' w w' = w refl
within_if false b b' w w' = w'

within_next : (b : outbox.Account) (ask : Ask) → IsWithin b → IsWithin (after_next b ask)
within_next b ask w = within_if (nat_lt b.gone (length b.arrived)) _ _ (λ lt. let less : b.gone < length b.arrived = ltb-true _ _ lt in omega arith) w

within_drop : (b : outbox.Account) → IsWithin b → IsWithin (after_drop b)
within_drop b w = within_if (nat_lt b.gone (length b.arrived)) _ _ (λ lt. let less : b.gone < length b.arrived = ltb-true _ _ lt in omega arith) w

within_verdict : (b : outbox.Account) (v : Verdict) → IsWithin b → IsWithin (outbox_after b v)
within_verdict b (Reply bytes) w = w
within_verdict b (Start work) w = within_either (has_room b work) _ _ w w
within_verdict b (Queue ask) w = within_either (is_last ask) _ _ w (within_next b ask w)
within_verdict b (Status ask) w = within_either (is_last ask) _ _ w w
within_verdict b Clear w = w
within_verdict b (Refuse nack) w = w

within_request : (a : Account) (r : Request) → IsWithin a.outbox → IsWithin (account_with a r).outbox
within_request a Ignored w = w
within_request a (Branch l u) w = w
within_request a (Muting m f) w = w
within_request a (Get f) w = within_verdict a.outbox (got a.parameters f.sub f.pid f.body) w
within_request a (Set f) w = within_verdict a.outbox (answer_to_set a.parameters f.sub f.pid f.body) w

-- a status entry leaves the queue
note_still : (b b' : outbox.Account) (c : Bool) → IsStill b b' → IsStill b (cond c b' b)
note_still b b' true s = s
note_still b b' false s = still b

entry_still : (p : Parameters) (b : outbox.Account) (entry : StatusEntry) → IsStill b (after_entry p b entry)
entry_still p b entry = note_still b _ _ (note_still b _ (can_note b) (record { arrived = refl; given = refl; answers = refl }))

outcome_still : (p : Parameters) (b : outbox.Account) (work : Work) (outcome : Outcome) → IsStill b (after_outcome p b work outcome)
outcome_still p b work Done = still b
outcome_still p b work (Reading v) = still b
outcome_still p b work (Failed severity id v1 v2) = entry_still p b _

within_arrive : (b : outbox.Account) (worker : ℕ) (m : Message) → IsWithin b → IsWithin (after_arrive b worker m)
within_arrive b worker m w = omega (arith, w, length-append b.arrived (m ∷ []))

within_message : (newest : Bool) (b : outbox.Account) (message : Option Message) → IsWithin b → IsWithin (after_message newest b message)
within_message newest b None w = w
within_message true b (Some m) w = gone_newest b m w
within_message false b (Some m) w = omega (arith, w, length-append b.arrived (m ∷ []))

within_event : (a : Account) (e : Event) → IsWithin a.outbox → IsWithin (account_after a e).outbox
within_event a (history.Heard bytes) w = within_request a (request_in a.setup.uid (frame_in bytes)) w
within_event a (history.Arrived r) w =
    within_still _ _ (outcome_still _ _ r.job.work r.outcome) (within_arrive a.outbox (worker_at a.outbox.workers r.job.work) (committed a.parameters r.job.work r.outcome) w)
within_event a (history.Changed change) w = within_message (newest_only a.parameters) a.outbox (change_message a.parameters change) w
within_event a (history.Placed sub pid bytes) w = w
within_event a (history.Noted entry) w = within_still _ _ (entry_still a.parameters a.outbox entry) w
within_event a (history.Restored image) w = w
within_event a history.Dropped w = within_drop a.outbox w

within_events : (a : Account) (es : List Event) → IsWithin a.outbox → IsWithin (fold account_after a es).outbox
within_events a [] w = w
within_events a (e ∷ es) w = within_events (account_after a e) es (within_event a e w)

pub within : (h : History) → (outbox_of h).gone ≤ length (outbox_of h).arrived
unfolding account_of
within h = within_events (account_before h.setup) h.events (omega arith)

-- ---- histories

heard_as : (h : History) (bytes : List ℕ) (found : Option Frame) → frame_in bytes ≡ found → queue_of (then_event h (history.Heard bytes)) ≡ queue_at (account_with (account_of h) (request_in (account_of h).setup.uid found)).outbox
heard_as h bytes found is =
    ap (λ (a : Account). queue_at a.outbox) (account_of-then h (history.Heard bytes))
    ∙ ap (λ (o : Option Frame). queue_at (account_with (account_of h) (request_in (account_of h).setup.uid o)).outbox) is

-- what is heard and is no frame
pub heard_nothing : (h : History) (bytes : List ℕ) → frame_in bytes ≡ None → queue_of (then_event h (history.Heard bytes)) ≡ queue_of h
heard_nothing h bytes none = heard_as h bytes None none

-- what is heard and is a frame
pub heard_frame : (h : History) (bytes : List ℕ) (f : Frame) → frame_in bytes ≡ Some f → queue_of (then_event h (history.Heard bytes)) ≡ queue_at (account_with (account_of h) (request_of (account_of h).setup.uid f)).outbox
heard_frame h bytes f is = heard_as h bytes (Some f) is

arrived_is : (b b' : outbox.Account) (m : Message) → b'.arrived ≡ b.arrived ++ m ∷ [] → b'.gone ≡ b.gone → b'.answers ≡ b.answers → queue_at b' ≡ record (queue_at b) { arrived = map carried b.arrived ++ carried m ∷ [] }
arrived_is b b' m e1 e2 e3 =
    queue_is (b.arrived ++ m ∷ []) b'.arrived b.gone b'.gone b.answers b'.answers e1 e2 e3
    ∙ ap (λ (ms : List Message). record (queue_at b) { arrived = ms }) (map-append carried b.arrived (m ∷ []))

report_still : (a : Account) (r : Report) → IsStill (after_arrive a.outbox (worker_at a.outbox.workers r.job.work) (committed a.parameters r.job.work r.outcome)) (account_after a (history.Arrived r)).outbox
report_still a r = outcome_still _ _ r.job.work r.outcome

pub report_arrived : (h : History) (r : Report) (arrival : Arrival) → IsArrival h r arrival → queue_of (then_event h (history.Arrived r)) ≡ polling.after (queue_of h) (Arrived (carried arrival.message))
report_arrived h r arrival is =
    let same = report_still (account_of h) r in
    arrived_is (outbox_of h) (outbox_of (then_event h (history.Arrived r))) arrival.message is.message
    (ap (λ (a : Account). a.outbox.gone) (account_of-then h (history.Arrived r)) ∙ same.given)
    (ap (λ (a : Account). a.outbox.answers) (account_of-then h (history.Arrived r)) ∙ same.answers)

one_is : (m n : Message) → m ∷ [] ≡ n ∷ [] → m ≡ n
one_is m n e = cc

-- the message of a report is that of its outcome
pub arrival_says : (h : History) (r : Report) (arrival : Arrival) → IsArrival h r arrival → arrival.message ≡ committed (account_of h).parameters r.job.work r.outcome
arrival_says h r arrival is =
    let said : Message = committed (account_of h).parameters r.job.work r.outcome in
    one_is arrival.message said
    (append_cancel_left (outbox_of h).arrived (arrival.message ∷ []) (said ∷ [])
    (sym is.message ∙ ap (λ (a : Account). a.outbox.arrived) (account_of-then h (history.Arrived r)) ∙ (report_still (account_of h) r).arrived))

-- What a change at the device's menu does to its queue: its message enters it, also in the place of one that waits and
-- tells of the same, or there is none.
pub data Changing (h : History) (change : Change) : Type 0 where
  Says : (m : Message) → queue_of (then_event h (history.Changed change)) ≡ polling.after (queue_of h) (Arrived (carried m)) → Changing h change
  Renews : (waiting : List Message) → queue_of (then_event h (history.Changed change)) ≡ polling.after (queue_of h) (Replaced waiting) → Changing h change
  Stays : queue_of (then_event h (history.Changed change)) ≡ queue_of h → Changing h change

changed_to : (h : History) (change : Change) → queue_of (then_event h (history.Changed change)) ≡ queue_at (after_message (newest_only (account_of h).parameters) (outbox_of h) (change_message (account_of h).parameters change))
changed_to h change = ap (λ (a : Account). queue_at a.outbox) (account_of-then h (history.Changed change))

-- what waits once a message has taken the place of one that tells of the same
abbrev pub renewed : outbox.Account → Message → List Message
renewed b m = map carried (in_place_of_same m (waiting_of b))

renewed_is : (b : outbox.Account) (m : Message) → queue_at (after_post_newest b m) ≡ polling.after (queue_at b) (Replaced (renewed b m))
renewed_is b m =
    ap (λ (ms : List Message). record (queue_at b) { arrived = ms })
    (map-append carried (take b.gone b.arrived) (in_place_of_same m (waiting_of b)) ∙ ap (λ (ms : List Message). ms ++ renewed b m) (sym (take-map carried b.gone b.arrived)))

changing_by : (h : History) (change : Change) (newest : Bool) (message : Option Message) → newest_only (account_of h).parameters ≡ newest → change_message (account_of h).parameters change ≡ message → Changing h change
changing_by h change true (Some m) n e =
    Renews (renewed (outbox_of h) m)
    (changed_to h change ∙ ap (λ (b : Bool). queue_at (after_message b (outbox_of h) (change_message (account_of h).parameters change))) n
    ∙ ap (λ (o : Option Message). queue_at (after_message true (outbox_of h) o)) e ∙ renewed_is (outbox_of h) m)
changing_by h change false (Some m) n e =
    Says m
    (changed_to h change ∙ ap (λ (b : Bool). queue_at (after_message b (outbox_of h) (change_message (account_of h).parameters change))) n
    ∙ ap (λ (o : Option Message). queue_at (after_message false (outbox_of h) o)) e ∙ arrived_is (outbox_of h) (after_post (outbox_of h) m) m refl refl refl)
changing_by h change newest None n e =
    Stays (changed_to h change ∙ ap (λ (o : Option Message). queue_at (after_message (newest_only (account_of h).parameters) (outbox_of h) o)) e)

pub value_changed : (h : History) (change : Change) → Changing h change
value_changed h change = changing_by h change (newest_only (account_of h).parameters) (change_message (account_of h).parameters change) refl refl

-- the queue after a change whose message, if there is one, is this
abbrev pub after_told : Bool → History → Option Message → polling.Queue
after_told newest h None = queue_of h
after_told true h (Some m) = polling.after (queue_of h) (Replaced (renewed (outbox_of h) m))
after_told false h (Some m) = polling.after (queue_of h) (Arrived (carried m))

posted_is : (newest : Bool) (h : History) (message : Option Message) → queue_at (after_message newest (outbox_of h) message) ≡ after_told newest h message
posted_is newest h None = refl
posted_is true h (Some m) = renewed_is (outbox_of h) m
posted_is false h (Some m) = arrived_is (outbox_of h) (after_post (outbox_of h) m) m refl refl refl

pub change_told : (h : History) (change : Change) (newest : Bool) (message : Option Message) → newest_only (account_of h).parameters ≡ newest → IsChange h change message → queue_of (then_event h (history.Changed change)) ≡ after_told newest h message
change_told h change newest message n is =
    changed_to h change
    ∙ ap (λ (b : Bool). queue_at (after_message b (outbox_of h) (change_message (account_of h).parameters change))) n
    ∙ ap (λ (o : Option Message). queue_at (after_message newest (outbox_of h) o)) (sym is.message_is)
    ∙ posted_is newest h message

-- ---- a poll

pub got_last : (p : Parameters) → got p 0 0x0020 (1 ∷ []) ≡ Queue asks.Last
unfolding got got_by_row accepted row_of table
got_last p = refl

pub got_advisory : (p : Parameters) → got p 0 0x0020 (2 ∷ []) ≡ Queue asks.Advisory
unfolding got got_by_row accepted row_of table
got_advisory p = refl

pub got_warning : (p : Parameters) → got p 0 0x0020 (3 ∷ []) ≡ Queue asks.Warning
unfolding got got_by_row accepted row_of table
got_warning p = refl

pub got_error : (p : Parameters) → got p 0 0x0020 (4 ∷ []) ≡ Queue asks.Error
unfolding got got_by_row accepted row_of table
got_error p = refl

slice_get-map : (ms : List Message) (n : ℕ) (m : Message) → slice_get ms n ≡ Some m → slice_get (map carried ms) n ≡ Some (carried m)
slice_get-map [] n m e = absurd cc
slice_get-map (x ∷ xs) zero m e = search e
slice_get-map (x ∷ xs) (suc n) m e = slice_get-map xs n m e

slice_get-map_none : (ms : List Message) (n : ℕ) → slice_get ms n ≡ None → slice_get (map carried ms) n ≡ None
slice_get-map_none [] n e = refl
slice_get-map_none (x ∷ xs) zero e = absurd cc
slice_get-map_none (x ∷ xs) (suc n) e = slice_get-map_none xs n e

is_next : (ms : List Message) (n : ℕ) (o : Option Message) (other : Message) → slice_get ms n ≡ o → IfSome (slice_get (map carried ms) n) (λ next. carried (unwrap_or o other) ≡ next)
is_next ms n None other e = rw (slice_get-map_none ms n e) tt
is_next ms n (Some m) other e = rw (slice_get-map ms n m e) refl

last_or_push : (m x : Message) (xs : List Message) → last_or m (xs ++ x ∷ []) ≡ x
last_or_push m x [] = refl
last_or_push m x (y ∷ xs) = last_or_push y x xs

parts : (ms : List Message) (n n' : ℕ) (m m' : Message) → n ≡ n' → m ≡ m' → queue ms n (carried m) ≡ queue ms n' (carried m')
parts ms n n' m m' e1 e2 = rw (e1, e2) refl

after_next_is : (b : outbox.Account) (ask : Ask) (c : Bool) → nat_lt b.gone (length b.arrived) ≡ c → IsWithin b → queue_at (after_next b ask) ≡ record (queue_at b) { given = min (b.gone + 1) (length (map carried b.arrived)); last = carried (next_of b ask) }
after_next_is b ask true e w =
    let lt : b.gone < length b.arrived = ltb-true _ _ e in
    ap queue_at (cond-true _ _ _ e)
    ∙ parts (map carried b.arrived) _ _ _ _ (omega (arith, length-map b.arrived carried)) (last_or_push (status_message []) (next_of b ask) b.answers)
after_next_is b ask false e w =
    let ge : length b.arrived ≤ b.gone = ltb-false _ _ e in
    let status : next_of b ask ≡ status_now b ask = ap (λ (o : Option Message). unwrap_or o (status_now b ask)) (slice_get_past b.arrived b.gone ge) in
    ap queue_at (cond-false _ _ _ e)
    ∙ parts (map carried b.arrived) _ _ _ _ (omega (arith, w, length-map b.arrived carried)) (last_or_push (status_message []) (status_now b ask) b.answers ∙ sym status)

-- the reply to a poll, and the queue after it
pub polled : (b : outbox.Account) (again : Bool) (ask : Ask) (heard : Bool) → is_last ask ≡ again → IsWithin b → IsReply (queue_at b) again (Some (carried (dispensed b ask))) heard × (queue_at (after_dispense b ask) ≡ polling.after (queue_at b) (Polled again (Some (carried (dispensed b ask))) heard))
polled b true ask heard e w = (rw e refl, rw e refl)
polled b false ask heard e w = (rw e (is_next b.arrived b.gone (slice_get b.arrived b.gone) _ refl), rw e (after_next_is b ask _ refl w))

-- What becomes of a poll: it isn't for the device, and nothing comes of it; or it has the reply of the queue, an ACK.
pub data Poll (a : Account) (own : Uid) (f : Frame) (ask : Ask) : Type 0 where
  Unanswered : answer_to a (request_of own f) ≡ None → account_with a (request_of own f) ≡ a → Poll a own f ask
  Answered : (r : Frame) → r.port ≡ 0 → answer_to a (request_of own f) ≡ Some (frame_text r) → message_of r ≡ dispensed a.outbox ask → (account_with a (request_of own f)).outbox ≡ after_dispense a.outbox ask → Poll a own f ask

ignored : (a : Account) (own : Uid) (f : Frame) (ask : Ask) → request_of own f ≡ Ignored → Poll a own f ask
ignored a own f ask e = Unanswered (ap (answer_to a) e) (ap (account_with a) e)

-- the response to a request, as a frame
abbrev response : Uid → Frame → ℕ → Response → Frame
response own f count r = record { dst = f.src; src = own; tn = f.tn; port = r.port; count = count; sub = r.sub; class = r.class; pid = r.pid; body = r.body }

answered_one : (own : Uid) (f : Frame) (count : ℕ) (r : Response) → is_broadcast f.dst ≡ false → answer_with own f count r ≡ Some (frame_text (response own f count r))
unfolding answer_with
answered_one own f count r one = cond-false _ _ _ one

taken : (a : Account) (own : Uid) (f : Frame) (ask : Ask) → request_of own f ≡ Get f → is_broadcast f.dst ≡ false → got a.parameters f.sub f.pid f.body ≡ Queue ask → Poll a own f ask
taken a own f ask e one is =
    let count : ℕ = message_count (after_dispense a.outbox ask) in
    Answered (response a.setup.uid f count (ack_message (dispensed a.outbox ask))) refl
    (ap (answer_to a) e ∙ ap (reply_with a.setup.uid a.parameters.profile a.outbox f) is ∙ answered_one a.setup.uid f count (ack_message (dispensed a.outbox ask)) one)
    refl
    (ap (λ (q : Request). (account_with a q).outbox) e ∙ ap (outbox_after a.outbox) is)

pub poll_becomes : (a : Account) (own target source : Uid) (tn t : ℕ) (ask : Ask) → got a.parameters 0 0x0020 (t ∷ []) ≡ Queue ask → Poll a own (requests.request_of source tn (requests.queued_message target t)) ask
poll_becomes a own target source tn t ask is =
    let f : Frame = requests.request_of source tn (requests.queued_message target t) in
    elim (cases_Bool (is_addressed own target)) [
      | inl mine ↦ elim (cases_Bool (is_broadcast target)) [
        | inl all ↦ ignored a own f ask (cond-true _ _ _ mine ∙ cond-true _ _ _ all)
        | inr one ↦ taken a own f ask (cond-true _ _ _ mine ∙ cond-false _ _ _ one) one is
      ]
      | inr other ↦ ignored a own f ask (cond-false _ _ _ other)
    ]
