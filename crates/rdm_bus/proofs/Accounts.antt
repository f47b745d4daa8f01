-- What a run of the bus makes of the account of jobs: the jobs that its events start are accepted, and as many of each
-- worker have ended as reports on them have arrived.
use Rattle.std.proofs.Common.{◌≡◌, ℕ, ◌+◌, ◌==◌, Bool, true, false, cond, List, [], ◌∷◌, ◌++◌, length, map, Option, Some, None, refl, sym, ap, subst, ◌∙◌, arith}
use Rattle.std.specs.Option.{option_map_or, option_and_then, option_to_list}
use Rattle.std.proofs.lemmas.List.Sums.{sum_by-cons}
use Rattle.rdm_frame.specs.FrameText.{frame_text}
use Rattle.rdm_frame.specs.declared.fault.Fault.{Fault}
use Rattle.rdm_frame.specs.Faults.{request_heard}
use Rattle.rdm_params.specs.Jobs.Work.{Choice, worker_at}
use Rattle.rdm_outbox.specs.Jobs.{ended_of}
use Rattle.rdm_responder.specs.declared.report.Report.{Report}
use Rattle.rdm_responder.specs.History as history
use Rattle.rdm_responder.specs.History.{History, then_event}
use Rattle.rdm_responder.specs.Rules.{job_of}
use Rattle.rdm_responder.specs.Runs.{outbox_of}
use Rattle.rdm_responder.proofs.Growth.{Grows, still, and_then, grows}
use Rattle.rdm_collector.specs.Collecting.{State, after_ask, after_poll, command_request, poll_request}
use Rattle.rdm_bus.specs.declared.event.Event.{Event}
use Rattle.rdm_bus.specs.declared.event.Event.TheVariants.{Bus, Arrived, Changed}
use Rattle.rdm_bus.specs.declared.event.Step.{Step}
use Rattle.rdm_bus.specs.declared.event.Step.TheVariants as step
use Rattle.rdm_bus.specs.BusRun.{Start, controller_at, transaction, IsPlayed, after, after_all, IsBusRun}
use Rattle.rdm_bus.specs.Happened.{started_in, arrived_in, jobs_in, reports_in, reports_of}

reaches : (h : History) (heard? : Option (List ℕ)) → Grows (outbox_of h) (outbox_of (option_map_or (λ bytes. then_event h (history.Heard bytes)) heard? h)) (option_to_list (option_and_then (job_of h) heard?)) []
reaches h None = still (outbox_of h)
reaches h (Some bytes) = grows h (history.Heard bytes)

-- the workers of these reports, by this choice
abbrev pub workers_of : Choice → List Report → List ℕ
workers_of ws rs = map (λ r. worker_at ws r.job.work) rs

abbrev Happens : Start → Event → Type 0
Happens s e = Grows (outbox_of s.history) (outbox_of (after s e).history) (started_in e) (workers_of (outbox_of s.history).workers (arrived_in e))

carried : (s : Start) (waiting : State) (poll : Bool) (f : Fault) (sent : List ℕ) → Happens s (transaction s.history waiting poll f sent)
carried s waiting poll f sent = reaches s.history (request_heard f sent)

pub happens : (s : Start) (p : Step) (e : Event) → IsPlayed s p e → Happens s e
happens s (step.Ask c f) e is = subst (Happens s) (sym is.1.event_is) (carried s (after_ask (controller_at s) c) false f (frame_text (command_request (controller_at s) c)))
happens s (step.Collect f) e is = subst (Happens s) (sym is.event_is) (carried s (after_poll (controller_at s)) true f (frame_text (poll_request (controller_at s))))
happens s (step.Arrive r) (Bus sent poll f reply job taken) is = absurd is
happens s (step.Arrive r) (Arrived reported m kept) is = grows s.history (history.Arrived reported)
happens s (step.Arrive r) (Changed change m) is = absurd is
happens s (step.Change change) (Bus sent poll f reply job taken) is = absurd is
happens s (step.Change change) (Arrived reported m kept) is = absurd is
happens s (step.Change change) (Changed change' m) is = grows s.history (history.Changed change')

map-append : {A B : Type 0} (f : A → B) (xs ys : List A) → map f (xs ++ ys) ≡ map f xs ++ map f ys
map-append f [] ys = refl
map-append f (x ∷ xs) ys = ap (λ l. f x ∷ l) (map-append f xs ys)

pub run_grows : (s : Start) (steps : List Step) (es : List Event) → IsBusRun s steps es → Grows (outbox_of s.history) (outbox_of (after_all s es).history) (jobs_in es) (workers_of (outbox_of s.history).workers (reports_in es))
unfolding jobs_in reports_in
run_grows s [] [] run = still (outbox_of s.history)
run_grows s [] (e ∷ es) run = absurd run
run_grows s (p ∷ ps) [] run = absurd run
run_grows s (p ∷ ps) (e ∷ es) run =
    let ws : Choice = (outbox_of s.history).workers in
    let one = happens s p e run.0 in
    -- the choice is still the same
    let more : Grows (outbox_of (after s e).history) (outbox_of (after_all s (e ∷ es)).history) (jobs_in es) (workers_of ws (reports_in es)) =
    subst (λ (v : Choice). Grows (outbox_of (after s e).history) (outbox_of (after_all s (e ∷ es)).history) (jobs_in es) (workers_of v (reports_in es))) one.workers (run_grows (after s e) ps es run.1) in
    subst (Grows (outbox_of s.history) (outbox_of (after_all s (e ∷ es)).history) (jobs_in (e ∷ es))) (sym (map-append (λ (r : Report). worker_at ws r.job.work) (arrived_in e) (reports_in es)))
    (and_then _ _ _ (started_in e) (jobs_in es) (workers_of ws (arrived_in e)) (workers_of ws (reports_in es)) one more)

count-cond : (b : Bool) (r : Report) (rs : List Report) → cond b 1 0 + length rs ≡ length (cond b (r ∷ rs) rs)
count-cond true r rs = omega arith
count-cond false r rs = omega arith

pub ended_count : (ws : Choice) (p : ℕ) (rs : List Report) → ended_of p (workers_of ws rs) ≡ length (reports_of ws p rs)
ended_count ws p [] = refl
ended_count ws p (r ∷ rs) =
    sum_by-cons (λ w. cond (w == p) 1 0) (worker_at ws r.job.work) (workers_of ws rs)
    ∙ ap (λ n. cond (worker_at ws r.job.work == p) 1 0 + n) (ended_count ws p rs)
    ∙ count-cond (worker_at ws r.job.work == p) r (reports_of ws p rs)
