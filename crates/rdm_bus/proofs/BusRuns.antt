-- Both recording laws hold of every run of the bus: what matters of it is a run of polls.
use Rattle.std.proofs.Common.{◌≡◌, ◌≢◌, ℕ, ◌≤◌, Bool, true, false, cond, List, [], ◌∷◌, ◌++◌, length, Option, Some, None, refl, sym, ap, subst, ◌∙◌, arith, inl, inr}
use Rattle.std.specs.Option.{option_map, option_map_or, option_and_then, option_to_list}
use Rattle.std.specs.List.{fold}
use Rattle.std.proofs.lemmas.Bool.{cases_Bool, both_ways, cond-true}
use Rattle.std.proofs.lemmas.List.{append-nil, length-map}
use Rattle.std.proofs.lemmas.List.Concat.{flat_map-append}
use Rattle.std.proofs.lemmas.List.Sums.{fold-append}
use Rattle.rdm_frame.specs.declared.frame.Frame.{Frame}
use Rattle.rdm_frame.specs.FrameText.{frame_text, IsFrame}
use Rattle.rdm_frame.specs.Reading.{frame_in}
use Rattle.rdm_frame.specs.declared.message.Message.{Message}
use Rattle.rdm_frame.specs.declared.fault.Fault.{Fault}
use Rattle.rdm_frame.specs.declared.fault.Fault.TheVariants as fault
use Rattle.rdm_frame.specs.Faults.{request_heard, altered, IsFault}
use Rattle.rdm_frame.proofs.Alterations.{altered_is_no_frame}
use Rattle.rdm_commands.specs.declared.jobs.ask.Ask.{Ask}
use Rattle.rdm_commands.specs.declared.jobs.ask.Ask.TheVariants as asks
use Rattle.rdm_commands.specs.declared.panel.Change.{Change}
use Rattle.rdm_commands.specs.declared.verdict.Verdict.TheVariants.{Queue}
use Rattle.rdm_params.specs.Commands.Commands.{got}
use Rattle.rdm_params.specs.Device.Parameters.{Parameters}
use Rattle.rdm_params.specs.Jobs.Laws.{GetQueues, GetStatuses, SetFetchesNothing}
use Rattle.rdm_outbox.specs.Messages.{is_last, dispensed as dispensed_at}
use Rattle.rdm_responder.specs.declared.report.Report.{Report}
use Rattle.rdm_responder.specs.History as history
use Rattle.rdm_responder.specs.History.{History, then_event}
use Rattle.rdm_responder.specs.Rules.{Account, account_of, answer_to, reply_of}
use Rattle.rdm_responder.specs.Requests.{request_in}
use Rattle.rdm_responder.specs.Runs.{IsArrival, outbox_of}
use Rattle.rdm_collector.specs.declared.command.Command.{Command}
use Rattle.rdm_collector.specs.declared.sender.AskError.{AskError}
use Rattle.rdm_collector.specs.declared.sender.AskError.TheVariants.{Reserved}
use Rattle.rdm_bus.specs.declared.event.Event.{Event}
use Rattle.rdm_bus.specs.declared.event.Event.TheVariants.{Bus, Arrived, Changed}
use Rattle.rdm_bus.specs.declared.event.Step.{Step}
use Rattle.rdm_bus.specs.declared.event.Step.TheVariants.{Ask as ask_step, Collect, Arrive, Change as change_step}
use Rattle.rdm_collector.specs.declared.want.Want.{Want}
use Rattle.rdm_collector.specs.declared.want.Want.TheVariants.{Advisory, Warning, Error}
use Rattle.rdm_collector.specs.Collecting.{State, refusal_of, command_request, after_ask, poll_request, poll_type, after_poll, heard_in}
use Rattle.rdm_collector.specs.Requests.{is_reserved, type_of}
use Rattle.rdm_bus.specs.BusRun.{Start, controller_at, replied, came, transaction, IsPlayed, is_message_heard, after, after_all, IsBusRun}
use Rattle.rdm_bus.specs.BusLaws.{message_in, dispensed, dispensed_by, recorded, recorded_by, recorded_if, carried, queue_of, BusLaws, BusLawsHold}
use Rattle.rdm_collector.specs.Recording.{NoLossLaw}
use Rattle.rdm_collector.specs.Polling as polling
use Rattle.rdm_collector.specs.Polling.{IsReply, IsRun, given_between}
use Rattle.rdm_collector.specs.Polling.Event.{Arrived as Enters, Replaced, Polled}
use Rattle.rdm_collector.proofs.PollingRuns.{laws_hold}
use Rattle.rdm_bus.proofs.Queues.{queue_at, queue_still, command_still, within, heard_nothing, heard_frame, report_arrived, Changing, Says, Renews, Stays, value_changed, got_last, got_advisory, got_warning, got_error, polled, Poll, Unanswered, Answered, poll_becomes}
use Rattle.rdm_bus.proofs.ReadBack.{message_read}
use Rattle.rdm_collector.proofs.ReadBack.{read_as_itself}

-- What reaches the device of a request: the whole, nothing, or bytes that are no frame.
pub data Reaches (fault : Fault) (sent : List ℕ) : Type 0 where
  Whole : request_heard fault sent ≡ Some sent → Reaches fault sent
  Lost : request_heard fault sent ≡ None → Reaches fault sent
  Spoilt : (bytes : List ℕ) → request_heard fault sent ≡ Some bytes → frame_in bytes ≡ None → Reaches fault sent

pub reaches : (f : Fault) (request : Frame) → IsFault f → IsFrame request → Reaches f (frame_text request)
reaches fault.None request i fits = Whole refl
reaches fault.LostRequest request i fits = Lost refl
reaches fault.LostReply request i fits = Whole refl
reaches (fault.BadRequest k x) request i fits = Spoilt (altered (frame_text request) k x) refl (altered_is_no_frame request k x fits i.0 i.1)
reaches (fault.BadReply k x) request i fits = Whole refl

-- the history after bytes reached the device, or didn't
abbrev pub history_with : History → Option (List ℕ) → History
history_with h heard = option_map_or (λ bytes. then_event h (history.Heard bytes)) heard h

-- ---- a command leaves the queue

pub command_leaves : GetQueues → GetStatuses → SetFetchesNothing → (h : History) (f : Fault) (request : Frame) → IsFrame request → request.pid ≢ 0x0020 → request.pid ≢ 0x0030 → Reaches f (frame_text request) → queue_of (history_with h (request_heard f (frame_text request))) ≡ queue_of h
command_leaves queues statuses sets h f request fits q s (Whole e) =
    ap (λ (o : Option (List ℕ)). queue_of (history_with h o)) e
    ∙ heard_frame h (frame_text request) request (read_as_itself request fits)
    ∙ queue_still _ _ (command_still queues statuses sets (account_of h) (account_of h).setup.uid request q s)
command_leaves queues statuses sets h f request fits q s (Lost e) = ap (λ (o : Option (List ℕ)). queue_of (history_with h o)) e
command_leaves queues statuses sets h f request fits q s (Spoilt bytes e none) =
    ap (λ (o : Option (List ℕ)). queue_of (history_with h o)) e ∙ heard_nothing h bytes none

-- ---- a poll

-- what a poll asks for
pub poll_ask : (p : Parameters) (unanswered : Bool) (want : Want) → (ask : Ask) × (got p 0 0x0020 (cond unanswered 1 (type_of want) ∷ []) ≡ Queue ask) × (is_last ask ≡ unanswered)
poll_ask p true want = (asks.Last, got_last p, refl)
poll_ask p false Advisory = (asks.Advisory, got_advisory p, refl)
poll_ask p false Warning = (asks.Warning, got_warning p, refl)
poll_ask p false Error = (asks.Error, got_error p, refl)

-- A poll that has this reply, and leads to this history, is one of a run of polls.
abbrev pub IsPolled : History → Bool → Option (List ℕ) → Bool → History → Type 0
IsPolled h again reply heard h' =
    IsReply (queue_of h) again (option_and_then message_in reply) heard
    × (polling.after (queue_of h) (Polled again (option_and_then message_in reply) heard) ≡ queue_of h')

no_reply : (h : History) (again : Bool) (reply : Option (List ℕ)) (heard : Bool) (h' : History) → reply ≡ None → heard ≡ false → queue_of h' ≡ queue_of h → IsPolled h again reply heard h'
no_reply h again reply heard h' e1 e2 e3 = rw e1 (e2, sym e3)

some_reply : (h : History) (again : Bool) (reply : Option (List ℕ)) (heard : Bool) (h' : History) (m : Message) → option_and_then message_in reply ≡ Some m → IsReply (queue_of h) again (Some m) heard → queue_of h' ≡ polling.after (queue_of h) (Polled again (Some m) heard) → IsPolled h again reply heard h'
some_reply h again reply heard h' m e1 is e3 = rw e1 (is, sym e3)

-- whether the controller hears a message
abbrev pub hears : State → Fault → Option (List ℕ) → Bool
hears waiting f reply = is_message_heard (option_map (heard_in waiting) (came f reply))

pub reply_is : (h : History) (bytes : List ℕ) (found : Option Frame) → frame_in bytes ≡ found → reply_of h bytes ≡ answer_to (account_of h) (request_in (account_of h).setup.uid found)
reply_is h bytes found e = ap (λ (o : Option Frame). answer_to (account_of h) (request_in (account_of h).setup.uid o)) e

whole_poll : (s : Start) (waiting : State) (f : Fault) → IsFrame (poll_request (controller_at s)) → (ask : Ask) → is_last ask ≡ s.unanswered → Poll (account_of s.history) (account_of s.history).setup.uid (poll_request (controller_at s)) ask → IsPolled s.history s.unanswered (reply_of s.history (frame_text (poll_request (controller_at s)))) (hears waiting f (reply_of s.history (frame_text (poll_request (controller_at s))))) (then_event s.history (history.Heard (frame_text (poll_request (controller_at s)))))
whole_poll s waiting f fits ask last (Unanswered none same) =
    let read = read_as_itself (poll_request (controller_at s)) fits in
    let silent : reply_of s.history (frame_text (poll_request (controller_at s))) ≡ None = reply_is s.history _ _ read ∙ none in
    no_reply s.history s.unanswered _ _ _ silent (ap (hears waiting f) silent)
    (heard_frame s.history (frame_text (poll_request (controller_at s))) (poll_request (controller_at s)) read ∙ ap (λ (a : Account). queue_at a.outbox) same)
whole_poll s waiting f fits ask last (Answered r port some is same) =
    let read = read_as_itself (poll_request (controller_at s)) fits in
    let reply : reply_of s.history (frame_text (poll_request (controller_at s))) ≡ Some (frame_text r) = reply_is s.history _ _ read ∙ some in
    let one = polled (outbox_of s.history) s.unanswered ask (hears waiting f (reply_of s.history (frame_text (poll_request (controller_at s))))) last (within s.history) in
    some_reply s.history s.unanswered _ _ _ (carried (dispensed_at (outbox_of s.history) ask))
    (ap (option_and_then message_in) reply ∙ message_read r ∙ ap (λ (m : Message). Some (carried m)) is)
    one.0
    (heard_frame s.history (frame_text (poll_request (controller_at s))) (poll_request (controller_at s)) read ∙ ap queue_at same ∙ one.1)

-- bytes reached the device, or didn't
abbrev pub IsPolledBy : Start → State → Fault → Option (List ℕ) → Type 0
IsPolledBy s waiting f heard =
    IsPolled s.history s.unanswered (option_and_then (reply_of s.history) heard) (hears waiting f (option_and_then (reply_of s.history) heard)) (history_with s.history heard)

pub poll_reaches : (s : Start) (waiting : State) (f : Fault) → IsFrame (poll_request (controller_at s)) → Reaches f (frame_text (poll_request (controller_at s))) → IsPolledBy s waiting f (request_heard f (frame_text (poll_request (controller_at s))))
poll_reaches s waiting f fits (Whole e) =
    let asks = poll_ask (account_of s.history).parameters s.unanswered s.want in
    subst (IsPolledBy s waiting f) (sym e) (whole_poll s waiting f fits asks.0 asks.2 (poll_becomes (account_of s.history) (account_of s.history).setup.uid s.target s.uid s.tn (poll_type (controller_at s)) asks.0 asks.1))
poll_reaches s waiting f fits (Lost e) = subst (IsPolledBy s waiting f) (sym e) (no_reply s.history s.unanswered None false s.history refl refl refl)
poll_reaches s waiting f fits (Spoilt bytes e none) =
    let silent : reply_of s.history bytes ≡ None = reply_is s.history bytes None none in
    subst (IsPolledBy s waiting f) (sym e) (no_reply s.history s.unanswered _ _ _ silent (ap (hears waiting f) silent) (heard_nothing s.history bytes none))

-- ---- runs

-- What matters of these events is a run of polls.
record IsSmall (s : Start) (events : List Event) : Type 0 where
  pub polls : List polling.Event
  pub run : IsRun (queue_of s.history) s.unanswered polls
  pub queue : fold polling.after (queue_of s.history) polls ≡ queue_of (after_all s events).history
  pub unanswered : fold polling.unanswered_after s.unanswered polls ≡ (after_all s events).unanswered
  pub dispensed_is : polling.dispensed polls ≡ dispensed events
  pub recorded_is : polling.recorded polls ≡ recorded events

run-append : (q : polling.Queue) (u : Bool) (xs ys : List polling.Event) → IsRun q u xs → IsRun (fold polling.after q xs) (fold polling.unanswered_after u xs) ys → IsRun q u (xs ++ ys)
run-append q u [] ys r t = t
run-append q u (x ∷ xs) ys r t = (r.0, run-append (polling.after q x) (polling.unanswered_after u x) xs ys r.1 t)

-- an event, and then others
small_more : (s : Start) (e : Event) (es : List Event) → IsSmall s (e ∷ []) → IsSmall (after s e) es → IsSmall s (e ∷ es)
small_more s e es one more =
    let P : polling.Queue → Bool → Type 0 = λ q u. IsRun q u more.polls in
    record {
      polls = one.polls ++ more.polls;
      run = run-append _ _ one.polls more.polls one.run (rw (one.queue, one.unanswered) more.run);
      queue = fold-append polling.after _ one.polls more.polls ∙ ap (λ (q : polling.Queue). fold polling.after q more.polls) one.queue ∙ more.queue;
      unanswered = fold-append polling.unanswered_after _ one.polls more.polls ∙ ap (λ (u : Bool). fold polling.unanswered_after u more.polls) one.unanswered ∙ more.unanswered;
      dispensed_is = flat_map-append polling.dispensed_by one.polls more.polls ∙ rw (one.dispensed_is, more.dispensed_is, append-nil (dispensed_by e)) refl;
      recorded_is = flat_map-append polling.recorded_by one.polls more.polls ∙ rw (one.recorded_is, more.recorded_is, append-nil (recorded_by e)) refl;
    }

small_none : (s : Start) → IsSmall s []
small_none s = record { polls = []; run = tt; queue = refl; unanswered = refl; dispensed_is = refl; recorded_is = refl }

-- nothing is recorded of a command
not_recorded : (c : Bool) (e : Event) → dispensed_by e ≡ [] → recorded_if c e ≡ []
not_recorded true e none = none
not_recorded false e none = refl

recorded_once : (c : Bool) (e : Event) (m : Option Message) (again : Bool) → dispensed_by e ≡ option_to_list m → polling.recorded_by (Polled again m c) ≡ recorded_if c e
recorded_once true e m again is = sym is
recorded_once false e m again is = refl

small_command : (s : Start) (waiting : State) (f : Fault) (request : Frame) → queue_of (history_with s.history (request_heard f (frame_text request))) ≡ queue_of s.history → IsSmall s (transaction s.history waiting false f (frame_text request) ∷ [])
small_command s waiting f request same =
    record { polls = []; run = tt; queue = sym same; unanswered = refl; dispensed_is = refl; recorded_is = sym (append-nil _ ∙ not_recorded (hears waiting f (replied s.history f (frame_text request))) (transaction s.history waiting false f (frame_text request)) refl) }

small_poll : (s : Start) (waiting : State) (f : Fault) (request : Frame) → IsPolledBy s waiting f (request_heard f (frame_text request)) → IsSmall s (transaction s.history waiting true f (frame_text request) ∷ [])
small_poll s waiting f request is = record {
  polls = Polled s.unanswered (option_and_then message_in (replied s.history f (frame_text request))) (hears waiting f (replied s.history f (frame_text request))) ∷ [];
  run = ((refl, is.0), tt);
  queue = is.1;
  unanswered = refl;
  dispensed_is = refl;
  recorded_is = ap (λ (ms : List Message). ms ++ []) (recorded_once (hears waiting f (replied s.history f (frame_text request))) (transaction s.history waiting true f (frame_text request)) _ s.unanswered refl);
}

small_arrival : (s : Start) (r : Report) (m : Message) (kept : Bool) → IsArrival s.history r (record { message = m; kept = kept }) → IsSmall s (Arrived r m kept ∷ [])
small_arrival s r m kept is = record {
  polls = Enters (carried m) ∷ [];
  run = (tt, tt);
  queue = sym (report_arrived s.history r (record { message = m; kept = kept }) is);
  unanswered = refl;
  dispensed_is = refl;
  recorded_is = refl;
}

-- a change at the device's menu puts its message into the queue, where there is one, or makes it wait in place of others
small_changing : (s : Start) (change : Change) (message : Option Message) → Changing s.history change → IsSmall s (Changed change message ∷ [])
small_changing s change message (Says m is) = record {
  polls = Enters (carried m) ∷ [];
  run = (tt, tt);
  queue = sym is;
  unanswered = refl;
  dispensed_is = refl;
  recorded_is = refl;
}
small_changing s change message (Renews waiting is) = record {
  polls = Replaced waiting ∷ [];
  run = (tt, tt);
  queue = sym is;
  unanswered = refl;
  dispensed_is = refl;
  recorded_is = refl;
}
small_changing s change message (Stays is) = record {
  polls = [];
  run = tt;
  queue = sym is;
  unanswered = refl;
  dispensed_is = refl;
  recorded_is = refl;
}

-- a command that isn't refused isn't reserved
pub not_reserved : (pid : ℕ) → is_reserved pid ≡ false → (pid ≢ 0x0020) × (pid ≢ 0x0030)
not_reserved pid e = (λ is. both_ways _ e (ap is_reserved is), λ is. both_ways _ e (ap is_reserved is))

some_is_not_none : (e : AskError) → Some e ≡ None → ⊥
some_is_not_none e is = absurd cc

pub allowed : (s : State) (c : Command) → refusal_of s c ≡ None → is_reserved c.pid ≡ false
allowed s c none =
    elim (cases_Bool (is_reserved c.pid)) [
      | inl is ↦ absurd (some_is_not_none Reserved (sym (cond-true _ _ _ is) ∙ none))
      | inr other ↦ other
    ]

small_one : GetQueues → GetStatuses → SetFetchesNothing → (s : Start) (step : Step) (e : Event) → IsPlayed s step e → IsSmall s (e ∷ [])
small_one queues statuses sets s (ask_step c f) e is =
    let other = not_reserved c.pid (allowed (controller_at s) c is.0) in
    let t = is.1 in
    let request : Frame = command_request (controller_at s) c in
    subst (λ (v : Event). IsSmall s (v ∷ [])) (sym t.event_is)
    (small_command s (after_ask (controller_at s) c) f request
    (command_leaves queues statuses sets s.history f request t.is_frame other.0 other.1 (reaches f request t.is_fault t.is_frame)))
small_one queues statuses sets s (Collect f) e is =
    let request : Frame = poll_request (controller_at s) in
    subst (λ (v : Event). IsSmall s (v ∷ [])) (sym is.event_is)
    (small_poll s (after_poll (controller_at s)) f request
    (poll_reaches s (after_poll (controller_at s)) f is.is_frame (reaches f request is.is_fault is.is_frame)))
small_one queues statuses sets s (Arrive r) (Bus sent poll f reply job heard) is = absurd is
small_one queues statuses sets s (Arrive r) (Arrived reported m kept) is =
    small_arrival s reported m kept (subst (λ (v : Report). IsArrival s.history v (record { message = m; kept = kept })) (sym is.0) is.1)
small_one queues statuses sets s (Arrive r) (Changed change m) is = absurd is
small_one queues statuses sets s (change_step change) (Bus sent poll f reply job heard) is = absurd is
small_one queues statuses sets s (change_step change) (Arrived r m kept) is = absurd is
small_one queues statuses sets s (change_step change) (Changed changed m) is =
    small_changing s changed m (value_changed s.history changed)

small_run : GetQueues → GetStatuses → SetFetchesNothing → (s : Start) (steps : List Step) (es : List Event) → IsBusRun s steps es → IsSmall s es
small_run queues statuses sets s [] [] run = small_none s
small_run queues statuses sets s [] (e ∷ es) run = absurd run
small_run queues statuses sets s (step ∷ steps) [] run = absurd run
small_run queues statuses sets s (step ∷ steps) (e ∷ es) run =
    small_more s e es (small_one queues statuses sets s step e run.0) (small_run queues statuses sets (after s e) steps es run.1)

-- ---- the laws

no_loss_of : (u u' : Bool) (start q q' : polling.Queue) (r r' : List Message) → u ≡ u' → q ≡ q' → r ≡ r' → NoLossLaw u (given_between start q) r → NoLossLaw u' (given_between start q') r'
no_loss_of u u' start q q' r r' e1 e2 e3 law = rw (← e1, ← e2, ← e3) law

laws_of_small : (s : Start) (es : List Event) → IsSmall s es → BusLaws s es
laws_of_small s es is =
    let most : (queue_of s.history).given ≤ length (queue_of s.history).arrived = omega (arith, within s.history, length-map (outbox_of s.history).arrived carried) in
    let laws = laws_hold (queue_of s.history) s.unanswered is.polls most is.run in
    record {
      prefix = rw (← is.unanswered, ← is.dispensed_is, ← is.recorded_is) laws.prefix;
      no_loss = no_loss_of _ _ (queue_of s.history) _ _ _ _ is.unanswered is.queue is.recorded_is laws.no_loss;
    }

pub bus_laws_hold : GetQueues → GetStatuses → SetFetchesNothing → BusLawsHold
bus_laws_hold queues statuses sets s steps es run = laws_of_small s es (small_run queues statuses sets s steps es run)
