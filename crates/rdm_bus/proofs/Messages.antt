-- Each message is given once, in order of arrival.
use Rattle.std.proofs.Common.{◌≡◌, ℕ, zero, suc, ◌+◌, ◌<◌, ◌≤◌, min, Bool, true, false, cond, List, [], ◌∷◌, ◌++◌, length, take, drop, Option, Some, None, refl, sym, ap, subst, ◌∙◌, arith, append_assoc, append-nil, length-take}
use Rattle.std.specs.Prelude.{slice_get, IfSome, nat_lt}
use Rattle.std.specs.Option.{option_map_or, option_and_then, option_to_list}
use Rattle.std.specs.List.{flat_map}
use Rattle.std.proofs.lemmas.Bool.{cond-true, cond-false, ltb-true, ltb-false}
use Rattle.std.proofs.lemmas.List.{drop_all, drop-map, drop-append-le, length-map}
use Rattle.rdm_frame.specs.declared.frame.Frame.{Frame}
use Rattle.rdm_frame.specs.FrameText.{frame_text}
use Rattle.rdm_frame.specs.declared.message.Message.{Message}
use Rattle.rdm_frame.specs.declared.fault.Fault.{Fault}
use Rattle.rdm_frame.specs.Faults.{request_heard}
use Rattle.rdm_commands.specs.declared.panel.Change.{Change}
use Rattle.rdm_params.specs.Jobs.Laws.{GetQueues, GetStatuses, SetFetchesNothing}
use Rattle.rdm_responder.specs.declared.report.Report.{Report}
use Rattle.rdm_outbox.specs.Jobs.{waiting_of}
use Rattle.rdm_responder.specs.History as history
use Rattle.rdm_responder.specs.History.{History, then_event}
use Rattle.rdm_responder.specs.Rules.{account_of, newest_only}
use Rattle.rdm_responder.specs.Runs.{IsArrival, IsChange, outbox_of}
use Rattle.rdm_responder.proofs.Choices.{newest_then}
use Rattle.rdm_bus.specs.declared.event.Event.{Event}
use Rattle.rdm_bus.specs.declared.event.Event.TheVariants.{Bus, Arrived, Changed}
use Rattle.rdm_bus.specs.declared.event.Step.{Step}
use Rattle.rdm_bus.specs.declared.event.Step.TheVariants as step
use Rattle.rdm_collector.specs.Collecting.{State, command_request, poll_request, after_ask, after_poll}
use Rattle.rdm_bus.specs.BusRun.{Start, controller_at, replied, transaction, IsPlayed, after, after_all, IsBusRun}
use Rattle.rdm_bus.specs.BusLaws.{carried, message_in, dispensed_by, queue_of}
use Rattle.rdm_bus.specs.Messages.{enters_by, waiting_at, keeps_newest, waiting_with, given_by, given_in, KeepsAtEach, KeepingHolds}
use Rattle.rdm_collector.specs.Polling as polling
use Rattle.rdm_collector.specs.Polling.{Queue, IsReply}
use Rattle.rdm_collector.specs.Polling.Event.{Arrived as Enters, Replaced, Polled}
use Rattle.rdm_bus.proofs.BusRuns.{hears, reaches, command_leaves, poll_reaches, not_reserved, allowed}
use Rattle.rdm_bus.proofs.Queues.{within, report_arrived, renewed, change_told}

-- ---- a queue

-- what waits in a queue
abbrev waits : Queue → List Message
waits q = drop q.given q.arrived

waiting_is : (s : Start) → waiting_at s ≡ waits (queue_of s.history)
waiting_is s = sym (drop-map carried (outbox_of s.history).gone (outbox_of s.history).arrived)

-- What was given from one queue to another, followed by what waits then, is what waited, followed by what entered.
abbrev Keeps : Queue → Queue → List Message → List Message → Type 0
Keeps q q' dispensed entered = cond (nat_lt q.given q'.given) dispensed [] ++ waits q' ≡ waits q ++ entered

not_less : (n : ℕ) (b : Bool) → nat_lt n n ≡ b → b ≡ false
not_less n true e = let lt : n < n = ltb-true n n e in absurd (omega (arith, lt))
not_less n false e = refl

-- it has given nothing
none_given : (q q' : Queue) (dispensed : List Message) → q'.given ≡ q.given → cond (nat_lt q.given q'.given) dispensed [] ≡ []
none_given q q' dispensed e =
    ap (λ n. cond (nat_lt q.given n) dispensed []) e ∙ ap (λ (b : Bool). cond b dispensed []) (not_less q.given (nat_lt q.given q.given) refl)

still : (q q' : Queue) (dispensed : List Message) → q' ≡ q → Keeps q q' dispensed []
still q q' dispensed e =
    ap (λ (ms : List Message). ms ++ waits q') (none_given q q' dispensed (ap (λ (p : Queue). p.given) e)) ∙ ap waits e ∙ sym (append-nil (waits q))

enter : (q q' : Queue) (dispensed : List Message) (m : Message) → q.given ≤ length q.arrived → q' ≡ polling.after q (Enters m) → Keeps q q' dispensed (m ∷ [])
enter q q' dispensed m le e =
    ap (λ (ms : List Message). ms ++ waits q') (none_given q q' dispensed (ap (λ (p : Queue). p.given) e))
    ∙ ap waits e
    ∙ drop-append-le q.given q.arrived (m ∷ []) le

some_is : (x y : Message) → Some x ≡ Some y → x ≡ y
some_is x y e = cc

-- the next message, and those after it
next_first : (n : ℕ) (ms : List Message) (m : Message) → n < length ms → IfSome (slice_get ms n) (λ next. m ≡ next) → m ∷ drop (suc n) ms ≡ drop n ms
next_first n [] m lt is = absurd (omega (arith, lt))
next_first zero (x ∷ ms) m lt is = ap (λ (y : Message). y ∷ ms) is
next_first (suc n) (x ∷ ms) m lt is = next_first n ms m (omega (arith, lt)) is

fetch_more : (q : Queue) (m : Message) → q.given < length q.arrived → IfSome (slice_get q.arrived q.given) (λ next. m ≡ next) → (n : ℕ) → n ≡ suc q.given → (b : Bool) → nat_lt q.given n ≡ b → cond b (m ∷ []) [] ++ drop n q.arrived ≡ waits q ++ []
fetch_more q m lt is n e true less = ap (λ k. m ∷ drop k q.arrived) e ∙ next_first q.given q.arrived m lt is ∙ sym (append-nil (waits q))
fetch_more q m lt is n e false less = let ge : n ≤ q.given = ltb-false _ _ less in absurd (omega (arith, ge, e))

fetch_none : (q : Queue) (ms : List Message) → q.given ≡ length q.arrived → (n : ℕ) → n ≡ q.given → cond (nat_lt q.given n) ms [] ++ drop n q.arrived ≡ waits q ++ []
fetch_none q ms all n e =
    ap (λ k. cond (nat_lt q.given k) ms [] ++ drop k q.arrived) e
    ∙ ap (λ (b : Bool). cond b ms [] ++ waits q) (not_less q.given (nat_lt q.given q.given) refl)
    ∙ sym (append-nil (waits q))

fetch : (q : Queue) (m : Message) (more? : Bool) → nat_lt q.given (length q.arrived) ≡ more? → q.given ≤ length q.arrived → IfSome (slice_get q.arrived q.given) (λ next. m ≡ next)
    → cond (nat_lt q.given (min (q.given + 1) (length q.arrived))) (m ∷ []) [] ++ drop (min (q.given + 1) (length q.arrived)) q.arrived ≡ waits q ++ []
fetch q m true e le is =
    let lt : q.given < length q.arrived = ltb-true _ _ e in
    fetch_more q m lt is (min (q.given + 1) (length q.arrived)) (omega (arith, lt)) (nat_lt q.given (min (q.given + 1) (length q.arrived))) refl
fetch q m false e le is =
    let ge : length q.arrived ≤ q.given = ltb-false _ _ e in
    fetch_none q (m ∷ []) (omega (arith, ge, le)) (min (q.given + 1) (length q.arrived)) (omega (arith, ge, le))

poll_keeps : (q : Queue) (again : Bool) (reply : Option Message) (heard : Bool) → IsReply q again reply heard → q.given ≤ length q.arrived → Keeps q (polling.after q (Polled again reply heard)) (option_to_list reply) []
poll_keeps q again None heard is le = still q q [] refl
poll_keeps q true (Some m) heard is le = still q q (m ∷ []) refl
poll_keeps q false (Some m) heard is le = fetch q m (nat_lt q.given (length q.arrived)) refl le is

-- ---- an event

within_carried : (h : History) → (queue_of h).given ≤ length (queue_of h).arrived
within_carried h = omega (arith, within h, length-map (outbox_of h).arrived carried)

abbrev KeepsAt : Start → Event → Type 0
KeepsAt s e = given_by s e ++ waiting_at (after s e) ≡ waiting_with s e

as_queues : (s : Start) (e : Event) → waiting_with s e ≡ waiting_at s ++ enters_by e → Keeps (queue_of s.history) (queue_of (after s e).history) (dispensed_by e) (enters_by e) → KeepsAt s e
as_queues s e behind keeps =
    ap (λ (ms : List Message). given_by s e ++ ms) (waiting_is (after s e)) ∙ keeps ∙ ap (λ (ms : List Message). ms ++ enters_by e) (sym (waiting_is s)) ∙ sym behind

-- what waits once it is replaced
replaced_waits : (q : Queue) (waiting : List Message) → q.given ≤ length q.arrived → waits (polling.after q (Replaced waiting)) ≡ waiting
replaced_waits q waiting le =
    let front : length (take q.given q.arrived) ≡ q.given = omega (arith, le, length-take q.given q.arrived) in
    drop-append-le q.given (take q.given q.arrived) waiting (omega (arith, front))
    ∙ ap (λ (ms : List Message). ms ++ waiting) (drop_all q.given (take q.given q.arrived) (omega (arith, front)))

-- a change at the menu whose message takes the place of one that tells of the same
renew_keeps : (s : Start) (change : Change) (m : Message) → keeps_newest s ≡ true → queue_of (after s (Changed change (Some m))).history ≡ polling.after (queue_of s.history) (Replaced (renewed (outbox_of s.history) m)) → KeepsAt s (Changed change (Some m))
renew_keeps s change m n told =
    let q : Queue = queue_of s.history in
    let q' : Queue = queue_of (after s (Changed change (Some m))).history in
    ap (λ (ms : List Message). given_by s (Changed change (Some m)) ++ ms) (waiting_is (after s (Changed change (Some m))))
    ∙ ap (λ (ms : List Message). ms ++ waits q') (none_given q q' [] (ap (λ (p : Queue). p.given) told))
    ∙ ap waits told
    ∙ replaced_waits q (renewed (outbox_of s.history) m) (within_carried s.history)
    ∙ sym (cond-true _ _ _ n)

change_keeps : (s : Start) (change : Change) (m : Message) (newest : Bool) → keeps_newest s ≡ newest → IsChange s.history change (Some m) → KeepsAt s (Changed change (Some m))
change_keeps s change m true n is = renew_keeps s change m n (change_told s.history change true (Some m) n is)
change_keeps s change m false n is =
    as_queues s (Changed change (Some m)) (cond-false _ _ _ n)
    (enter _ _ [] (carried m) (within_carried s.history) (change_told s.history change false (Some m) n is))

command_keeps : (s : Start) (waiting : State) (f : Fault) (sent : List ℕ) → queue_of (after s (transaction s.history waiting false f sent)).history ≡ queue_of s.history → KeepsAt s (transaction s.history waiting false f sent)
command_keeps s waiting f sent same = as_queues s (transaction s.history waiting false f sent) refl (still _ _ [] same)

keeps_after : (q r r' : Queue) (dispensed : List Message) → r ≡ r' → Keeps q r dispensed [] → Keeps q r' dispensed []
keeps_after q r r' dispensed e keeps = subst (λ (p : Queue). Keeps q p dispensed []) e keeps

event_keeps : GetQueues → GetStatuses → SetFetchesNothing → (s : Start) (p : Step) (e : Event) → IsPlayed s p e → KeepsAt s e
event_keeps queues statuses sets s (step.Ask c f) e is =
    let other = not_reserved c.pid (allowed (controller_at s) c is.0) in
    let t = is.1 in
    let request : Frame = command_request (controller_at s) c in
    subst (KeepsAt s) (sym t.event_is)
    (command_keeps s (after_ask (controller_at s) c) f (frame_text request)
    (command_leaves queues statuses sets s.history f request t.is_frame other.0 other.1 (reaches f request t.is_fault t.is_frame)))
event_keeps queues statuses sets s (step.Collect f) e is =
    let request : Frame = poll_request (controller_at s) in
    let waiting : State = after_poll (controller_at s) in
    let polled = poll_reaches s waiting f is.is_frame (reaches f request is.is_fault is.is_frame) in
    let reply : Option (List ℕ) = replied s.history f (frame_text request) in
    subst (KeepsAt s) (sym is.event_is)
    (as_queues s (transaction s.history waiting true f (frame_text request)) refl
    (keeps_after (queue_of s.history) _ _ (option_to_list (option_and_then message_in reply)) polled.1
    (poll_keeps (queue_of s.history) s.unanswered (option_and_then message_in reply) (hears waiting f reply) polled.0 (within_carried s.history))))
event_keeps queues statuses sets s (step.Arrive r) (Bus sent poll f reply job heard) is = absurd is
event_keeps queues statuses sets s (step.Arrive r) (Arrived reported m kept) is =
    as_queues s (Arrived reported m kept) refl
    (enter _ _ [] (carried m) (within_carried s.history)
    (report_arrived s.history reported (record { message = m; kept = kept }) (subst (λ (v : Report). IsArrival s.history v (record { message = m; kept = kept })) (sym is.0) is.1)))
event_keeps queues statuses sets s (step.Arrive r) (Changed change m) is = absurd is
event_keeps queues statuses sets s (step.Change change) (Bus sent poll f reply job heard) is = absurd is
event_keeps queues statuses sets s (step.Change change) (Arrived r m kept) is = absurd is
event_keeps queues statuses sets s (step.Change change) (Changed changed None) is =
    as_queues s (Changed changed None) refl
    (still _ _ [] (change_told s.history changed (keeps_newest s) None refl (subst (λ (v : Change). IsChange s.history v None) (sym is.0) is.1)))
event_keeps queues statuses sets s (step.Change change) (Changed changed (Some m)) is =
    change_keeps s changed m (keeps_newest s) refl (subst (λ (v : Change). IsChange s.history v (Some m)) (sym is.0) is.1)

-- ---- a run

chain : (g gs last middle first js ks : List Message) → g ++ middle ≡ first ++ js → gs ++ last ≡ middle ++ ks → (g ++ gs) ++ last ≡ first ++ (js ++ ks)
chain g gs last middle first js ks e1 e2 =
    append_assoc g gs last
    ∙ ap (λ (l : List Message). g ++ l) e2
    ∙ sym (append_assoc g middle ks)
    ∙ ap (λ (l : List Message). l ++ ks) e1
    ∙ append_assoc first js ks

-- the profile of a device stays, so what it asks for does
newest_heard : (h : History) (heard : Option (List ℕ)) → newest_only (account_of (option_map_or (λ (bytes : List ℕ). then_event h (history.Heard bytes)) heard h)).parameters ≡ newest_only (account_of h).parameters
newest_heard h None = refl
newest_heard h (Some bytes) = newest_then h (history.Heard bytes)

newest_after : (s : Start) (e : Event) → keeps_newest (after s e) ≡ keeps_newest s
newest_after s (Bus sent poll f reply job heard) = newest_heard s.history (request_heard f sent)
newest_after s (Arrived r m kept) = newest_then s.history (history.Arrived r)
newest_after s (Changed change m) = newest_then s.history (history.Changed change)

-- where each message is kept, the one that enters stands behind all
all_behind : (s : Start) (e : Event) → keeps_newest s ≡ false → waiting_with s e ≡ waiting_at s ++ enters_by e
all_behind s (Bus sent poll f reply job heard) n = refl
all_behind s (Arrived r m kept) n = refl
all_behind s (Changed change None) n = refl
all_behind s (Changed change (Some m)) n = cond-false _ _ _ n

at_each : GetQueues → GetStatuses → SetFetchesNothing → (s : Start) (ps : List Step) (es : List Event) → IsBusRun s ps es → KeepsAtEach s es
at_each queues statuses sets s [] [] run = tt
at_each queues statuses sets s [] (e ∷ es) run = absurd run
at_each queues statuses sets s (p ∷ ps) [] run = absurd run
at_each queues statuses sets s (p ∷ ps) (e ∷ es) run = (event_keeps queues statuses sets s p e run.0, at_each queues statuses sets (after s e) ps es run.1)

in_all : (s : Start) (es : List Event) → KeepsAtEach s es → keeps_newest s ≡ false → given_in s es ++ waiting_at (after_all s es) ≡ waiting_at s ++ flat_map enters_by es
in_all s [] each n = sym (append-nil (waiting_at s))
in_all s (e ∷ es) each n =
    chain (given_by s e) (given_in (after s e) es) (waiting_at (after_all s (e ∷ es))) (waiting_at (after s e)) (waiting_at s) (enters_by e) (flat_map enters_by es)
    (each.0 ∙ all_behind s e n) (in_all (after s e) es each.1 (newest_after s e ∙ n))

pub keeping : GetQueues → GetStatuses → SetFetchesNothing → KeepingHolds
keeping queues statuses sets s ps es run =
    let each : KeepsAtEach s es = at_each queues statuses sets s ps es run in
    record { at_each = each; in_all = in_all s es each }
