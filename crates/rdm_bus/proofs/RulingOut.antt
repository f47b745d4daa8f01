-- What the headline rules out.
use Rattle.std.proofs.Common.{◌≡◌, ℕ, Bool, true, false, cond, List, [], ◌∷◌, ◌++◌, length, Some, None, refl, sym, ap, subst, ◌∙◌, arith}
use Rattle.std.specs.Prelude.{slice_get}
use Rattle.std.proofs.lemmas.Bool.{eq-eqb}
use Rattle.rdm_frame.specs.declared.message.Message.{Message}
use Rattle.rdm_params.specs.Jobs.Commit.{committed}
use Rattle.rdm_params.specs.Jobs.Work.{worker_at}
use Rattle.rdm_outbox.specs.declared.job.Job.{Job}
use Rattle.rdm_outbox.specs.Jobs.{jobs_of, outstanding_of}
use Rattle.rdm_responder.specs.declared.report.Report.{Report}
use Rattle.rdm_responder.specs.Rules.{account_of}
use Rattle.rdm_responder.specs.Runs.{IsArrival, outbox_of}
use Rattle.rdm_bus.specs.declared.event.Event.TheVariants.{Arrived}
use Rattle.rdm_bus.specs.declared.event.Step.{Step}
use Rattle.rdm_bus.specs.declared.event.Step.TheVariants as step
use Rattle.rdm_bus.specs.BusRun.{Start, IsPlayed, after_all}
use Rattle.rdm_bus.specs.Happened.{arrived_in, jobs_in}
use Rattle.rdm_bus.specs.Headline.{choice_of, TwiceIsRuledOut, LaterFirstIsRuledOut, AnsweringTheUnheardIsRuledOut, AfterTheCloseIsRuledOut, SkippingIsRuledOut, RecordingNothingIsRuledOut, RecordingTwiceIsRuledOut, DroppingAnEqualOneIsRuledOut, BookingNoPollIsRuledOut, AnotherMessageIsRuledOut}
use Rattle.rdm_collector.specs.Recording.{join}
use Rattle.rdm_collector.proofs.Joining.{join-nil}
use Rattle.rdm_bus.proofs.Numbering.{is_poll_of}
use Rattle.rdm_bus.proofs.Orders.{done_by}
use Rattle.rdm_bus.proofs.Queues.{arrival_says}
use Rattle.rdm_collector.proofs.Refusals.{not_skipped, join-two}

pub twice : TwiceIsRuledOut
twice start steps handed events collected worker r s two same law =
    let equal = law.at_most_once worker 0 1 r s (ap (λ (rs : List Report). slice_get rs 0) two) (ap (λ (rs : List Report). slice_get rs 1) two) same in
    omega (arith, equal)

-- the first of a list, or else another job
abbrev first_of : Job → List Job → Job
first_of j [] = j
first_of j (x ∷ xs) = x

pub later_first : LaterFirstIsRuledOut
later_first start steps handed events collected worker r first second more waits one is differ law =
    let both : r.job ≡ first =
    ap (first_of r.job)
    (ap (λ (rs : List Report). done_by rs ++ outstanding_of (outbox_of (after_all start events).history) worker) (sym one)
    ∙ law.in_order worker
    ∙ ap (λ (js : List Job). js ++ jobs_of (choice_of start) worker (jobs_in events)) waits) in
    differ (sym both ∙ is)

false_is_true : false ≡ true → ⊥
false_is_true e = cc

some_is_none : (t : List ℕ) → Some t ≡ None → ⊥
some_is_none t e = cc

pub answering_the_unheard : AnsweringTheUnheardIsRuledOut
answering_the_unheard start steps handed events collected sent reply poll job heard law = some_is_none reply law.each_reply.0

one_is_none : (r : Report) → r ∷ [] ≡ [] → ⊥
one_is_none r e = cc

pub after_the_close : AfterTheCloseIsRuledOut
after_the_close start steps events collected r law =
    one_is_none r (ap (λ (own : Bool). cond own (r ∷ []) []) (sym (eq-eqb (worker_at (choice_of start) r.job.work) (worker_at (choice_of start) r.job.work) refl)) ∙ law.nothing_after_close.0)

pub skipping : SkippingIsRuledOut
skipping start steps handed events lost next two other law =
    not_skipped lost next other law.prefix.0 (law.prefix.1 ∙ ap join two)

pub recording_nothing : RecordingNothingIsRuledOut
recording_nothing start steps handed events first second two other law =
    omega (arith, law.at_most_one_shorter, ap length join-nil, ap length (ap join two ∙ join-two first second other))

pub recording_twice : RecordingTwiceIsRuledOut
recording_twice start steps handed events m one law = omega (arith, ap length (law.what_was_heard ∙ one))

pub dropping_an_equal_one : DroppingAnEqualOneIsRuledOut
dropping_an_equal_one start steps handed events m both two law = omega (arith, ap length (law.what_was_heard ∙ two))

pub booking_no_poll : BookingNoPollIsRuledOut
booking_no_poll start steps handed events collected wrong sent fault reply job heard law = false_is_true (ap is_poll_of law.of_the_steps.0.event_is)

-- a message that isn't that of the outcome, at each step
another_at : (start : Start) (p : Step) (r : Report) (m : Message) (kept : Bool) → IsPlayed start p (Arrived r m kept) → m ≡ committed (account_of start.history).parameters r.job.work r.outcome
another_at start (step.Ask c f) r m kept is = absurd (one_is_none r (ap arrived_in is.1.event_is))
another_at start (step.Collect f) r m kept is = absurd (one_is_none r (ap arrived_in is.event_is))
another_at start (step.Arrive reported) r m kept is =
    arrival_says start.history r (record { message = m; kept = kept })
    (subst (λ (v : Report). IsArrival start.history v (record { message = m; kept = kept })) (sym is.0) is.1)
another_at start (step.Change change) r m kept is = absurd is

pub another_message : AnotherMessageIsRuledOut
another_message start [] handed events collected r m kept other law = law.of_the_steps
another_message start (p ∷ steps) handed events collected r m kept other law = other (another_at start p r m kept law.of_the_steps.0)
