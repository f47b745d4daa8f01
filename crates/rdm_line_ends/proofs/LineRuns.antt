-- Both recording laws hold of every device of a line and its collector: what matters of a run to the two is a run of polls.
use Rattle.std.proofs.Common.{◌≡◌, ◌≢◌, ℕ, ◌≤◌, ◌==◌, Bool, true, false, cond, List, [], ◌∷◌, ◌++◌, length, Option, Some, None, refl, sym, ap, subst, ◌∙◌, arith}
use Rattle.std.specs.Prelude.{AllPairs, Contains}
use Rattle.std.specs.List.{fold, slice_get}
use Rattle.std.specs.Option.{option_map, option_map_or, option_and_then, option_to_list}
use Rattle.std.proofs.lemmas.Bool.{both_ways, eqb-true}
use Rattle.std.proofs.lemmas.Bool.Decides.{Decides-eqb}
use Rattle.std.proofs.lemmas.List.{append-nil, length-map}
use Rattle.std.proofs.lemmas.List.Concat.{flat_map-append}
use Rattle.std.proofs.lemmas.List.Sums.{fold-append}
use Rattle.rdm_frame.specs.declared.frame.Frame.{Frame}
use Rattle.rdm_frame.specs.Addressing.{is_broadcast}
use Rattle.rdm_frame.specs.FrameText.{frame_text, IsFrame}
use Rattle.rdm_frame.specs.Reading.{uid_at}
use Rattle.rdm_frame.specs.declared.message.Message.{Message}
use Rattle.rdm_frame.specs.declared.fault.Fault.{Fault}
use Rattle.rdm_frame.specs.Faults.{request_heard}
use Rattle.rdm_commands.specs.declared.panel.Change.{Change}
use Rattle.rdm_params.specs.Jobs.Laws.{GetQueues, GetStatuses, SetFetchesNothing}
use Rattle.rdm_responder.specs.declared.report.Report.{Report}
use Rattle.rdm_responder.specs.History as history
use Rattle.rdm_responder.specs.History.{History, then_event}
use Rattle.rdm_responder.specs.Rules.{Account, job_of, reply_of}
use Rattle.rdm_responder.specs.Runs.{IsArrival, outbox_of}
use Rattle.rdm_collector.specs.Collecting.{State, command_request, after_ask, poll_request, after_poll, heard_in}
use Rattle.rdm_collector.specs.Polling as polling
use Rattle.rdm_collector.specs.Polling.{IsRun, given_between}
use Rattle.rdm_collector.specs.Polling.Event.{Arrived as Enters, Replaced, Polled}
use Rattle.rdm_collector.specs.Recording.{NoLossLaw}
use Rattle.rdm_collector.proofs.PollingRuns.{laws_hold}
use Rattle.rdm_collector.proofs.ReadBack.{read_as_itself}
use Rattle.rdm_bus.specs.declared.event.Event.{Event}
use Rattle.rdm_bus.specs.declared.event.Event.TheVariants.{Bus, Arrived, Changed}
use Rattle.rdm_bus.specs.declared.event.Step.{Step}
use Rattle.rdm_bus.specs.declared.event.Step.TheVariants.{Ask, Collect, Arrive, Change as change_step}
use Rattle.rdm_bus.specs.BusRun.{Start, controller_at, came, replied, transaction}
use Rattle.rdm_bus.specs.BusLaws.{message_in, dispensed_by, recorded, recorded_by, recorded_if, carried, queue_of}
use Rattle.rdm_bus.proofs.BusRuns.{Reaches, Whole, Lost, Spoilt, reaches, history_with, command_leaves, hears, reply_is, IsPolledBy, poll_reaches, not_reserved, allowed}
use Rattle.rdm_bus.proofs.Queues.{queue_at, within, heard_nothing, report_arrived, Changing, Says, Renews, Stays, value_changed}
use Rattle.rdm_line.specs.declared.collision.Collision.{Collision}
use Rattle.rdm_line.specs.Collisions.{on_wire}
use Rattle.rdm_line.specs.Hearing.{answers, heard_by, hears as is_for}
use Rattle.rdm_line.specs.Line.{uids_of}
use Rattle.rdm_line.proofs.Alone.{others_deaf}
use Rattle.rdm_line.proofs.Collisions.{one_answers, silent_all}
use Rattle.rdm_line.proofs.Unheard.{heard_as, unanswered, unchanged, frame_read}
use Rattle.rdm_line_ends.specs.LineRun.{IsPaired, IsLine, LineStep, IsLinePlayed, IsLineRun, histories, bytes_on, line_replied, line_transaction, overheard, after_own, after_other, line_after, line_after_all, events_at}
use Rattle.rdm_line_ends.specs.LineLaws.{dispensed_to, dispensed_at, recorded_at, PairLaws, LineLawsHold}
use Rattle.rdm_line_ends.proofs.Places.{same_start, at_place, among, two_differ, line_stays, after_at}

-- ---- a run of polls

-- What matters of a while, in which this was dispensed and recorded, is a run of polls.
record IsSmall (s t : Start) (said noted : List Message) : Type 0 where
  pub polls : List polling.Event
  pub run : IsRun (queue_of s.history) s.unanswered polls
  pub queue : fold polling.after (queue_of s.history) polls ≡ queue_of t.history
  pub unanswered : fold polling.unanswered_after s.unanswered polls ≡ t.unanswered
  pub said_is : polling.dispensed polls ≡ said
  pub noted_is : polling.recorded polls ≡ noted

run-append : (q : polling.Queue) (u : Bool) (xs ys : List polling.Event) → IsRun q u xs → IsRun (fold polling.after q xs) (fold polling.unanswered_after u xs) ys → IsRun q u (xs ++ ys)
run-append q u [] ys r t = t
run-append q u (x ∷ xs) ys r t = (r.0, run-append (polling.after q x) (polling.unanswered_after u x) xs ys r.1 t)

small_more : (s t u : Start) (said said' noted noted' : List Message) → IsSmall s t said noted → IsSmall t u said' noted' → IsSmall s u (said ++ said') (noted ++ noted')
small_more s t u said said' noted noted' one more = record {
  polls = one.polls ++ more.polls;
  run = run-append _ _ one.polls more.polls one.run (rw (one.queue, one.unanswered) more.run);
  queue = fold-append polling.after _ one.polls more.polls ∙ ap (λ (q : polling.Queue). fold polling.after q more.polls) one.queue ∙ more.queue;
  unanswered = fold-append polling.unanswered_after _ one.polls more.polls ∙ ap (λ (b : Bool). fold polling.unanswered_after b more.polls) one.unanswered ∙ more.unanswered;
  said_is = flat_map-append polling.dispensed_by one.polls more.polls ∙ rw (one.said_is, more.said_is) refl;
  noted_is = flat_map-append polling.recorded_by one.polls more.polls ∙ rw (one.noted_is, more.noted_is) refl;
}

small_still : (s t : Start) → queue_of t.history ≡ queue_of s.history → t.unanswered ≡ s.unanswered → IsSmall s t [] []
small_still s t e u = record { polls = []; run = tt; queue = sym e; unanswered = sym u; said_is = refl; noted_is = refl }

-- ---- what is heard on a line

-- bytes that don't address a device leave its queue as if it heard them
queue_by : (h : History) (bytes : List ℕ) (b : Bool) → is_for h.setup.uid bytes ≡ b → queue_of (heard_by bytes h) ≡ queue_of (then_event h (history.Heard bytes))
queue_by h bytes true e = ap queue_of (heard_as h bytes true e)
queue_by h bytes false e = ap queue_of (heard_as h bytes false e) ∙ sym (ap (λ (a : Account). queue_at a.outbox) (unchanged h bytes e))

line_queue : (h : History) (heard : Option (List ℕ)) → queue_of (option_map_or (λ bytes. heard_by bytes h) heard h) ≡ queue_of (history_with h heard)
line_queue h None = refl
line_queue h (Some bytes) = queue_by h bytes (is_for h.setup.uid bytes) refl

-- an answer alone is on the wire
alone_on_wire : (rule : Collision) (o : Option (List ℕ)) → bytes_on (on_wire rule [] (option_to_list o)) ≡ o
alone_on_wire rule None = refl
alone_on_wire rule (Some bytes) = refl

-- What comes from the line to a request for one device is what that device replies.
own_reply : (rule : Collision) (hs : List History) (h : History) (f : Fault) (request : Frame) → AllPairs (λ u v. u ≢ v) (uids_of hs) → Contains hs h → IsFrame request → h.setup.uid ≡ request.dst → is_broadcast request.dst ≡ false → Reaches f (frame_text request)
    → line_replied rule hs f (frame_text request) ≡ replied h f (frame_text request)
own_reply rule hs h f request differ there fits own single (Whole e) =
    ap (option_and_then (λ bytes. bytes_on (on_wire rule [] (answers bytes hs)))) e
    ∙ ap (λ (xs : List (List ℕ)). bytes_on (on_wire rule [] xs)) (one_answers hs h (frame_text request) request differ there (read_as_itself request fits) single own)
    ∙ alone_on_wire rule (reply_of h (frame_text request))
    ∙ ap (option_and_then (reply_of h)) (sym e)
own_reply rule hs h f request differ there fits own single (Lost e) =
    ap (option_and_then (λ bytes. bytes_on (on_wire rule [] (answers bytes hs)))) e ∙ ap (option_and_then (reply_of h)) (sym e)
own_reply rule hs h f request differ there fits own single (Spoilt bytes e none) =
    let silent : (k : History) → reply_of k bytes ≡ None = λ k. reply_is k bytes None none in
    ap (option_and_then (λ heard. bytes_on (on_wire rule [] (answers heard hs)))) e
    ∙ ap (λ (xs : List (List ℕ)). bytes_on (on_wire rule [] xs)) (silent_all hs bytes silent)
    ∙ sym (silent h) ∙ ap (option_and_then (reply_of h)) (sym e)

-- A request for one device addresses no other.
deaf_to : (h : History) (request : Frame) → IsFrame request → is_broadcast request.dst ≡ false → h.setup.uid ≢ request.dst → is_for h.setup.uid (frame_text request) ≡ false
deaf_to h request fits single other =
    let text = frame_text request in
    let dst : request.dst ≡ uid_at text 3 = (frame_read text request (read_as_itself request fits)).dst in
    (others_deaf text (h ∷ []) (ap is_broadcast (sym dst) ∙ single) ((λ same. other (same ∙ sym dst)), tt)).0

-- A poll of one device leaves the queue of any other.
poll_leaves : (h : History) (f : Fault) (request : Frame) → IsFrame request → is_broadcast request.dst ≡ false → h.setup.uid ≢ request.dst → Reaches f (frame_text request) → queue_of (option_map_or (λ bytes. heard_by bytes h) (request_heard f (frame_text request)) h) ≡ queue_of h
poll_leaves h f request fits single other (Whole e) =
    ap (λ (o : Option (List ℕ)). queue_of (option_map_or (λ bytes. heard_by bytes h) o h)) e
    ∙ ap queue_of (heard_as h (frame_text request) false (deaf_to h request fits single other))
poll_leaves h f request fits single other (Lost e) = ap (λ (o : Option (List ℕ)). queue_of (option_map_or (λ bytes. heard_by bytes h) o h)) e
poll_leaves h f request fits single other (Spoilt bytes e none) =
    ap (λ (o : Option (List ℕ)). queue_of (option_map_or (λ heard. heard_by heard h) o h)) e ∙ line_queue h (Some bytes) ∙ heard_nothing h bytes none

-- No other device says anything to it.
poll_silent : (h : History) (f : Fault) (request : Frame) → IsFrame request → is_broadcast request.dst ≡ false → h.setup.uid ≢ request.dst → Reaches f (frame_text request) → replied h f (frame_text request) ≡ None
poll_silent h f request fits single other (Whole e) = ap (option_and_then (reply_of h)) e ∙ unanswered h (frame_text request) (deaf_to h request fits single other)
poll_silent h f request fits single other (Lost e) = ap (option_and_then (reply_of h)) e
poll_silent h f request fits single other (Spoilt bytes e none) = ap (option_and_then (reply_of h)) e ∙ reply_is h bytes None none

-- ---- an event at another device

-- It leaves the device's queue, and the device says nothing to it.
abbrev Passes : History → Event → Type 0
Passes h event = (queue_of (overheard event h) ≡ queue_of h) × (dispensed_to h event ≡ [])

other_event : GetQueues → GetStatuses → SetFetchesNothing → (rule : Collision) (hs : List History) (s t : Start) (step : Step) (event : Event) → IsPaired t → s.history.setup.uid ≢ t.history.setup.uid → IsLinePlayed rule hs t step event → Passes s.history event
other_event queues statuses sets rule hs s t (Ask c f) event paired apart played =
    let is = played.1 in
    let pid = not_reserved c.pid (allowed (controller_at t) c played.0) in
    let request : Frame = command_request (controller_at t) c in (
      ap (λ (e : Event). queue_of (overheard e s.history)) is.event_is
          ∙ line_queue s.history (request_heard f (frame_text request))
          ∙ command_leaves queues statuses sets s.history f request is.is_frame pid.0 pid.1 (reaches f request is.is_fault is.is_frame),
      ap (dispensed_to s.history) is.event_is,
    )
other_event queues statuses sets rule hs s t (Collect f) event paired apart is =
    let request : Frame = poll_request (controller_at t) in
    let single : is_broadcast request.dst ≡ false = ap is_broadcast paired.0 ∙ paired.1 in
    let other : s.history.setup.uid ≢ request.dst = λ same. apart (same ∙ paired.0) in
    let way = reaches f request is.is_fault is.is_frame in (
      ap (λ (e : Event). queue_of (overheard e s.history)) is.event_is
          ∙ poll_leaves s.history f request is.is_frame single other way,
      ap (dispensed_to s.history) is.event_is
          ∙ ap (λ (o : Option (List ℕ)). option_to_list (option_and_then message_in o)) (poll_silent s.history f request is.is_frame single other way),
    )
other_event queues statuses sets rule hs s t (Arrive r) (Bus sent poll f reply job heard) paired apart played = absurd played
other_event queues statuses sets rule hs s t (Arrive r) (Arrived reported m kept) paired apart played = (refl, refl)
other_event queues statuses sets rule hs s t (Arrive r) (Changed change m) paired apart played = absurd played
other_event queues statuses sets rule hs s t (change_step change) (Bus sent poll f reply job heard) paired apart played = absurd played
other_event queues statuses sets rule hs s t (change_step change) (Arrived r m kept) paired apart played = absurd played
other_event queues statuses sets rule hs s t (change_step change) (Changed changed m) paired apart played = (refl, refl)

-- ---- an event at the device itself

abbrev IsOwn : Start → Event → Type 0
IsOwn s event = IsSmall s (after_own s event) (dispensed_to s.history event) (recorded_by event)

not_recorded : (b : Bool) (event : Event) → dispensed_by event ≡ [] → recorded_if b event ≡ []
not_recorded true event none = none
not_recorded false event none = refl

recorded_once : (b : Bool) (event : Event) (m : Option Message) (again : Bool) → dispensed_by event ≡ option_to_list m → polling.recorded_by (Polled again m b) ≡ recorded_if b event
recorded_once true event m again is = sym is
recorded_once false event m again is = refl

own_command : (rule : Collision) (hs : List History) (s : Start) (waiting : State) (f : Fault) (request : Frame) → queue_of (option_map_or (λ bytes. heard_by bytes s.history) (request_heard f (frame_text request)) s.history) ≡ queue_of s.history
    → IsOwn s (line_transaction rule hs s.history waiting false f (frame_text request))
own_command rule hs s waiting f request same = record {
  polls = [];
  run = tt;
  queue = sym same;
  unanswered = refl;
  said_is = refl;
  noted_is = sym (not_recorded (hears waiting f (line_replied rule hs f (frame_text request))) (line_transaction rule hs s.history waiting false f (frame_text request)) refl);
}

own_poll : (s : Start) (waiting : State) (f : Fault) (request : Frame) → IsPolledBy s waiting f (request_heard f (frame_text request))
    → IsOwn s (transaction s.history waiting true f (frame_text request))
own_poll s waiting f request is = record {
  polls = Polled s.unanswered (option_and_then message_in (replied s.history f (frame_text request))) (hears waiting f (replied s.history f (frame_text request))) ∷ [];
  run = ((refl, is.0), tt);
  queue = is.1 ∙ sym (line_queue s.history (request_heard f (frame_text request)));
  unanswered = refl;
  said_is = append-nil _;
  noted_is = append-nil _ ∙ (recorded_once (hears waiting f (replied s.history f (frame_text request))) (transaction s.history waiting true f (frame_text request)) _ s.unanswered refl);
}

own_arrival : (s : Start) (r : Report) (m : Message) (kept : Bool) → IsArrival s.history r (record { message = m; kept = kept }) → IsOwn s (Arrived r m kept)
own_arrival s r m kept is = record {
  polls = Enters (carried m) ∷ [];
  run = (tt, tt);
  queue = sym (report_arrived s.history r (record { message = m; kept = kept }) is);
  unanswered = refl;
  said_is = refl;
  noted_is = refl;
}

own_change : (s : Start) (change : Change) (message : Option Message) → Changing s.history change → IsOwn s (Changed change message)
own_change s change message (Says m is) = record { polls = Enters (carried m) ∷ []; run = (tt, tt); queue = sym is; unanswered = refl; said_is = refl; noted_is = refl }
own_change s change message (Renews waiting is) = record { polls = Replaced waiting ∷ []; run = (tt, tt); queue = sym is; unanswered = refl; said_is = refl; noted_is = refl }
own_change s change message (Stays is) = record { polls = []; run = tt; queue = sym is; unanswered = refl; said_is = refl; noted_is = refl }

-- what is on the line is what the two alone would see
as_alone : (rule : Collision) (hs : List History) (h : History) (waiting : State) (f : Fault) (sent : List ℕ) → line_replied rule hs f sent ≡ replied h f sent → line_transaction rule hs h waiting true f sent ≡ transaction h waiting true f sent
as_alone rule hs h waiting f sent e =
    ap (λ (reply : Option (List ℕ)). Bus sent true f reply (option_and_then (job_of h) (request_heard f sent)) (option_map (heard_in waiting) (came f reply))) e

own_event : GetQueues → GetStatuses → SetFetchesNothing → (rule : Collision) (hs : List History) (s : Start) (step : Step) (event : Event) → IsPaired s → AllPairs (λ u v. u ≢ v) (uids_of hs) → Contains hs s.history → IsLinePlayed rule hs s step event → IsOwn s event
own_event queues statuses sets rule hs s (Ask c f) event paired differ there played =
    let is = played.1 in
    let pid = not_reserved c.pid (allowed (controller_at s) c played.0) in
    let request : Frame = command_request (controller_at s) c in
    subst (IsOwn s) (sym is.event_is)
    (own_command rule hs s (after_ask (controller_at s) c) f request
    (line_queue s.history (request_heard f (frame_text request))
    ∙ command_leaves queues statuses sets s.history f request is.is_frame pid.0 pid.1 (reaches f request is.is_fault is.is_frame)))
own_event queues statuses sets rule hs s (Collect f) event paired differ there is =
    let request : Frame = poll_request (controller_at s) in
    let way = reaches f request is.is_fault is.is_frame in
    let alone = own_reply rule hs s.history f request differ there is.is_frame (sym paired.0) (ap is_broadcast paired.0 ∙ paired.1) way in
    subst (IsOwn s) (sym (is.event_is ∙ as_alone rule hs s.history (after_poll (controller_at s)) f (frame_text request) alone))
    (own_poll s (after_poll (controller_at s)) f request (poll_reaches s (after_poll (controller_at s)) f is.is_frame way))
own_event queues statuses sets rule hs s (Arrive r) (Bus sent poll f reply job heard) paired differ there played = absurd played
own_event queues statuses sets rule hs s (Arrive r) (Arrived reported m kept) paired differ there played =
    own_arrival s reported m kept (subst (λ (v : Report). IsArrival s.history v (record { message = m; kept = kept })) (sym played.0) played.1)
own_event queues statuses sets rule hs s (Arrive r) (Changed change m) paired differ there played = absurd played
own_event queues statuses sets rule hs s (change_step change) (Bus sent poll f reply job heard) paired differ there played = absurd played
own_event queues statuses sets rule hs s (change_step change) (Arrived r m kept) paired differ there played = absurd played
own_event queues statuses sets rule hs s (change_step change) (Changed changed m) paired differ there played = own_change s changed m (value_changed s.history changed)

-- ---- runs

and_then_more : (b : Bool) (s t : Start) (event : Event) (es : List Event) (said : List Message) → (b ≡ true → IsOwn s event) → (b ≡ false → Passes s.history event)
    → IsSmall (cond b (after_own s event) (after_other s event)) t said (recorded es) → IsSmall s t (dispensed_to s.history event ++ said) (recorded (cond b (event ∷ es) es))
and_then_more true s t event es said own other rest = small_more s (after_own s event) t _ said _ (recorded es) (own refl) rest
and_then_more false s t event es said own other rest =
    subst (λ (ms : List Message). IsSmall s t (ms ++ said) (recorded es)) (sym (other refl).1)
    (small_more s (after_other s event) t [] said [] (recorded es) (small_still s (after_other s event) (other refl).0 refl) rest)

not_equal : (i k : ℕ) → (i == k) ≡ false → i ≡ k → ⊥
not_equal i k apart same = both_ways (i == k) apart ((Decides-eqb i k).1 same)

small_run : GetQueues → GetStatuses → SetFetchesNothing → (rule : Collision) (line : List Start) (steps : List LineStep) (events : List Event) → IsLine line → IsLineRun rule line steps events → (i : ℕ) (s t : Start) → slice_get line i ≡ Some s → slice_get (line_after_all steps events line) i ≡ Some t → IsSmall s t (dispensed_at i line steps events) (recorded_at i steps events)
small_run queues statuses sets rule line [] [] is run i s t at end =
    let same : t ≡ s = same_start t s (sym end ∙ at) in
    small_still s t (ap (λ (x : Start). queue_of x.history) same) (ap (λ (x : Start). x.unanswered) same)
small_run queues statuses sets rule line [] (event ∷ events) is run i s t at end = absurd run
small_run queues statuses sets rule line (step ∷ steps) [] is run i s t at end = absurd run
small_run queues statuses sets rule line (placed ∷ steps) (event ∷ events) is run i s t at end =
    let k : ℕ = placed.place in
    let step : Step = placed.step in
    let one : Start = run.0.0 in
    let there : slice_get line k ≡ Some one = run.0.1 in
    let rest : List Message = dispensed_at i (line_after k event line) steps events in
    subst (λ (o : Option Start). IsSmall s t (option_map_or (λ x. dispensed_to x.history event) o [] ++ rest) (recorded (cond (i == k) (event ∷ events_at i steps events) (events_at i steps events)))) (sym at)
    (and_then_more (i == k) s t event (events_at i steps events) rest
    (λ here.
    let same : one ≡ s = same_start one s (sym there ∙ ap (λ (j : ℕ). slice_get line j) (sym (eqb-true i k here)) ∙ at) in
    own_event queues statuses sets rule (histories line) s step event (at_place line i s at is.paired) is.differ (among line i s at) (subst (λ (x : Start). IsLinePlayed rule (histories line) x step event) same run.0.2))
    (λ apart. other_event queues statuses sets rule (histories line) s one step event (at_place line k one there is.paired) (two_differ line i k s one is.differ at there (not_equal i k apart)) run.0.2)
    (small_run queues statuses sets rule (line_after k event line) steps events (line_stays k event line is) run.1 i (cond (i == k) (after_own s event) (after_other s event)) t (after_at 0 k i i event line s (omega arith) at) end))

-- ---- the laws

no_loss_of : (u u' : Bool) (start q q' : polling.Queue) (r r' : List Message) → u ≡ u' → q ≡ q' → r ≡ r' → NoLossLaw u (given_between start q) r → NoLossLaw u' (given_between start q') r'
no_loss_of u u' start q q' r r' e1 e2 e3 law = rw (← e1, ← e2, ← e3) law

laws_of_small : (s t : Start) (said noted : List Message) → IsSmall s t said noted → PairLaws s t said noted
laws_of_small s t said noted is =
    let most : (queue_of s.history).given ≤ length (queue_of s.history).arrived = omega (arith, within s.history, length-map (outbox_of s.history).arrived carried) in
    let laws = laws_hold (queue_of s.history) s.unanswered is.polls most is.run in
    record {
      prefix = rw (← is.unanswered, ← is.said_is, ← is.noted_is) laws.prefix;
      no_loss = no_loss_of _ _ (queue_of s.history) _ _ _ _ is.unanswered is.queue is.noted_is laws.no_loss;
    }

-- a place is still there after events
stays_there : (steps : List LineStep) (events : List Event) (line : List Start) (i : ℕ) (s : Start) → slice_get line i ≡ Some s → (t : Start) × (slice_get (line_after_all steps events line) i ≡ Some t)
stays_there [] events line i s at = (s, at)
stays_there (placed ∷ steps) [] line i s at = (s, at)
stays_there (placed ∷ steps) (event ∷ events) line i s at =
    stays_there steps events (line_after placed.place event line) i (cond (i == placed.place) (after_own s event) (after_other s event)) (after_at 0 placed.place i i event line s (omega arith) at)

pub line_laws_hold : GetQueues → GetStatuses → SetFetchesNothing → LineLawsHold
line_laws_hold queues statuses sets rule line steps events is run i s at =
    let last = stays_there steps events line i s at in
    (last.0, last.1, laws_of_small s last.0 _ _ (small_run queues statuses sets rule line steps events is run i s last.0 at last.1))
