-- The headline holds of every run of the bus.
use Rattle.std.proofs.Common.{◌≡◌, ℕ, zero, suc, ◌+◌, ◌≤◌, ◌==◌, List, [], ◌∷◌, ◌++◌, length, drop, Some, refl, sym, ap, subst, ◌∙◌, arith, length-append, length-drop}
use Rattle.std.specs.Prelude.{slice_get}
use Rattle.std.proofs.lemmas.List.{drop-append-le}
use Rattle.std.proofs.lemmas.List.Elements.{filter-append}
use Rattle.rdm_frame.specs.declared.message.Message.{Message}
use Rattle.rdm_params.specs.Jobs.Work.{Choice, worker_at}
use Rattle.rdm_outbox.specs.declared.job.Job.{Job}
use Rattle.rdm_outbox.specs.Jobs.{jobs_of, ended_of, number_after, outstanding_of}
use Rattle.rdm_responder.specs.declared.report.Report.{Report}
use Rattle.rdm_responder.specs.Lawful.{IsLawful}
use Rattle.rdm_responder.specs.Runs.{outbox_of}
use Rattle.rdm_bus.specs.declared.event.Event.{Event}
use Rattle.rdm_bus.specs.declared.event.Event.TheVariants.{Bus, Arrived, Changed}
use Rattle.rdm_bus.specs.declared.event.Step.{Step}
use Rattle.rdm_bus.specs.declared.event.Step.TheVariants as step
use Rattle.rdm_bus.specs.BusRun.{Start, IsPlayed, after, after_all, IsBusRun}
use Rattle.rdm_bus.specs.BusLaws.{BusLawsHold, dispensed, recorded}
use Rattle.rdm_bus.specs.Happened.{arrived_in, jobs_in, reports_in, reported_by, reported_in}
use Rattle.rdm_bus.specs.Headline.{IsByTheRules, RepliesAreByTheRules, Handed, results_in, unclosed, AreOnce, choice_of, entered, NothingAfterClose, Headline, HeadlineHolds}
use Rattle.rdm_bus.specs.Messages.{KeepingHolds}
use Rattle.rdm_collector.specs.Recording.{join}
use Rattle.rdm_bus.proofs.Accounts.{run_grows}
use Rattle.rdm_bus.proofs.Numbers.{NumberedFrom, number_at, drop_numbered, front_number, same_number, stands_below, numbered, few_jobs, ends_within}
use Rattle.rdm_bus.proofs.Orders.{EndsWithin, done_by, run_moves}

-- ---- each reply

by_the_rules : (s : Start) (p : Step) (e : Event) → IsPlayed s p e → IsByTheRules s.history e
by_the_rules s (step.Ask c f) e is = subst (IsByTheRules s.history) (sym is.1.event_is) refl
by_the_rules s (step.Collect f) e is = subst (IsByTheRules s.history) (sym is.event_is) refl
by_the_rules s (step.Arrive r) (Bus sent poll f reply job taken) is = absurd is
by_the_rules s (step.Arrive r) (Arrived reported m kept) is = tt
by_the_rules s (step.Arrive r) (Changed change m) is = absurd is
by_the_rules s (step.Change change) (Bus sent poll f reply job taken) is = absurd is
by_the_rules s (step.Change change) (Arrived reported m kept) is = absurd is
by_the_rules s (step.Change change) (Changed changed m) is = tt

replies : (s : Start) (steps : List Step) (es : List Event) → IsBusRun s steps es → RepliesAreByTheRules s es
replies s [] [] run = tt
replies s [] (e ∷ es) run = absurd run
replies s (p ∷ ps) [] run = absurd run
replies s (p ∷ ps) (e ∷ es) run = (by_the_rules s p e run.0, replies (after s e) ps es run.1)

-- ---- each result at most once

job_of : (rs : List Report) (i : ℕ) (r : Report) → slice_get rs i ≡ Some r → slice_get (done_by rs) i ≡ Some r.job
job_of [] i r at = absurd cc
job_of (x ∷ rs) zero r at = cc
job_of (x ∷ rs) (suc i) r at = job_of rs i r at

once : (first n : ℕ) (rs : List Report) → NumberedFrom first n (done_by rs) → n + length (done_by rs) ≤ 4294967295 → AreOnce rs
once first n rs all few i k r s one two same =
    let at_i = job_of rs i r one in
    let at_k = job_of rs k s two in
    let alike : number_after first (n + i) ≡ number_after first (n + k) =
    sym (number_at first n i (done_by rs) r.job all at_i) ∙ ap (λ (j : Job). j.number) same ∙ number_at first n k (done_by rs) s.job all at_k in
    omega (
      arith,
      same_number first (n + i) (n + k) (stands_below n (done_by rs) i r.job few at_i) (stands_below n (done_by rs) k s.job few at_k) alike,
    )

-- what a worker was given before a run and in it
given_since : (w : ℕ) (s : Start) (steps : List Step) (es : List Event) → IsBusRun s steps es
    → jobs_of (outbox_of (after_all s es).history).workers w (outbox_of (after_all s es).history).accepted
    ≡ jobs_of (choice_of s) w (outbox_of s.history).accepted ++ jobs_of (choice_of s) w (jobs_in es)
given_since w s steps es run =
    ap (λ (v : Choice). jobs_of v w (outbox_of (after_all s es).history).accepted) (run_grows s steps es run).workers
    ∙ ap (jobs_of (choice_of s) w) (run_grows s steps es run).accepted ∙ filter-append (λ (j : Job). worker_at (choice_of s) j.work == w) (outbox_of s.history).accepted (jobs_in es)

-- what was outstanding and what was accepted since, numbered
numbered_since : (w : ℕ) (s : Start) (steps : List Step) (es : List Event) → IsBusRun s steps es → EndsWithin w (outbox_of s.history)
    → NumberedFrom (after_all s es).history.setup.first_job (ended_of w (outbox_of s.history).ended) (outstanding_of (outbox_of s.history) w ++ jobs_of (choice_of s) w (jobs_in es))
numbered_since w s steps es run within =
    let n : ℕ = ended_of w (outbox_of s.history).ended in
    let first : ℕ = (after_all s es).history.setup.first_job in
    let xs : List Job = jobs_of (choice_of s) w (outbox_of s.history).accepted in
    let ys : List Job = jobs_of (choice_of s) w (jobs_in es) in
    subst (NumberedFrom first n) (ap (drop n) (given_since w s steps es run) ∙ drop-append-le n xs ys within)
    (drop_numbered first n (jobs_of (outbox_of (after_all s es).history).workers w (outbox_of (after_all s es).history).accepted) (numbered (after_all s es).history w))

-- those that are done since are no more than were given, less those that were done before
few_done : (n most : ℕ) (all xs ys done left : List Job) → length all ≤ most → all ≡ xs ++ ys → done ++ left ≡ drop n xs ++ ys → n ≤ length xs → n + length done ≤ most
few_done n most all xs ys done left few given kept within =
    omega (arith, few, ap length given, length-append xs ys, ap length kept, length-append done left, length-append (drop n xs) ys, length-drop n xs, within)

at_most_once : (w : ℕ) (s : Start) (steps : List Step) (es : List Event) → IsBusRun s steps es → EndsWithin w (outbox_of s.history) → AreOnce (entered s w es)
at_most_once w s steps es run within =
    let n : ℕ = ended_of w (outbox_of s.history).ended in
    let first : ℕ = (after_all s es).history.setup.first_job in
    let xs : List Job = jobs_of (choice_of s) w (outbox_of s.history).accepted in
    let ys : List Job = jobs_of (choice_of s) w (jobs_in es) in
    let given : List Job = jobs_of (outbox_of (after_all s es).history).workers w (outbox_of (after_all s es).history).accepted in
    let left : List Job = outstanding_of (outbox_of (after_all s es).history) w in
    let kept = (run_moves w s steps es run within).kept in
    once first n (entered s w es)
    (front_number first n (done_by (entered s w es)) left (subst (NumberedFrom first n) (sym kept) (numbered_since w s steps es run within)))
    (few_done n 4294967295 given xs ys (done_by (entered s w es)) left (few_jobs (after_all s es).history w) (given_since w s steps es run) kept within)

-- ---- what is handed in

one_reported : (s : Start) (p : Step) (e : Event) → IsPlayed s p e → arrived_in e ≡ reported_by p
one_reported s (step.Ask c f) e is = ap arrived_in is.1.event_is
one_reported s (step.Collect f) e is = ap arrived_in is.event_is
one_reported s (step.Arrive r) (Bus sent poll f reply job taken) is = absurd is
one_reported s (step.Arrive r) (Arrived reported m kept) is = ap (λ (x : Report). x ∷ []) is.0
one_reported s (step.Arrive r) (Changed change m) is = absurd is
one_reported s (step.Change change) (Bus sent poll f reply job taken) is = absurd is
one_reported s (step.Change change) (Arrived reported m kept) is = absurd is
one_reported s (step.Change change) (Changed changed m) is = refl

-- what arrives in a run are the reports of its steps
pub all_reported : (s : Start) (steps : List Step) (es : List Event) → IsBusRun s steps es → reports_in es ≡ reported_in steps
unfolding reports_in
all_reported s [] [] run = refl
all_reported s [] (e ∷ es) run = absurd run
all_reported s (p ∷ ps) [] run = absurd run
all_reported s (p ∷ ps) (e ∷ es) run =
    ap (λ (rs : List Report). rs ++ reports_in es) (one_reported s p e run.0) ∙ ap (λ (rs : List Report). reported_by p ++ rs) (all_reported (after s e) ps es run.1)

as_results : (rs : List Report) → rs ≡ results_in (unclosed rs)
as_results [] = refl
as_results (r ∷ rs) = ap (λ (l : List Report). r ∷ l) (as_results rs)

none_closes : (ws : Choice) (rs : List Report) → NothingAfterClose ws (unclosed rs)
none_closes ws [] = tt
none_closes ws (r ∷ rs) = none_closes ws rs

-- ---- the headline

one_shorter : (recorded' dispensed' rest : List Message) → recorded' ++ rest ≡ dispensed' → length rest ≤ 1 → length dispensed' ≤ length recorded' + 1
one_shorter r d rest e most = omega (arith, ap length e, length-append r rest, most)

-- of any list that was handed in, if its results are those that arrived
pub headline_of : BusLawsHold → KeepingHolds → (s : Start) (steps : List Step) (es : List Event) (handed : List Handed) → IsLawful s.history → IsBusRun s steps es
    → reports_in es ≡ results_in handed → NothingAfterClose (choice_of s) handed → Headline s steps handed es (recorded es)
headline_of laws keeping s steps es handed lawful run same closed =
    let law = (laws s steps es run).prefix in
    record {
      of_the_steps = run;
      each_reply = replies s steps es run;
      enters = same;
      in_the_queue = keeping s steps es run;
      at_most_once = λ w. at_most_once w s steps es run (ends_within s.history w lawful);
      in_order = λ w. (run_moves w s steps es run (ends_within s.history w lawful)).kept;
      nothing_after_close = closed;
      what_was_heard = refl;
      prefix = (law.rest, law.prefix);
      at_most_one_shorter = one_shorter (join (recorded es)) (join (dispensed es)) law.rest law.prefix law.at_most_one;
    }

pub headline_holds : BusLawsHold → KeepingHolds → HeadlineHolds
headline_holds laws keeping s steps es lawful run =
    headline_of laws keeping s steps es (unclosed (reported_in steps)) lawful run (all_reported s steps es run ∙ as_results (reported_in steps)) (none_closes (choice_of s) (reported_in steps))
