-- The requests of a run are numbered, and its polls ask for the wanted type or for the last message again.
use Rattle.std.proofs.Common.{◌≡◌, ℕ, zero, suc, ◌+◌, ◌%◌, ◌^◌, ◌<◌, ◌≤◌, Bool, true, false, not, cond, List, [], ◌∷◌, ◌++◌, length, Option, Some, refl, sym, ap, subst, ◌∙◌, arith}
use Rattle.std.specs.Prelude.{slice_get}
use Rattle.std.specs.List.{flat_map}
use Rattle.rdm_frame.specs.declared.uid.Uid.{Uid}
use Rattle.rdm_frame.specs.declared.frame.Frame.{Frame}
use Rattle.rdm_frame.specs.FrameText.{frame_text, IsFrame}
use Rattle.rdm_frame.specs.declared.fault.Fault.{Fault}
use Rattle.rdm_outbox.specs.declared.job.Job.{Job}
use Rattle.rdm_outbox.specs.Jobs.{jobs_of, number_after}
use Rattle.rdm_responder.specs.Runs.{outbox_of}
use Rattle.rdm_bus.specs.declared.event.Event.{Event}
use Rattle.rdm_bus.specs.declared.event.Event.TheVariants.{Bus, Arrived, Changed}
use Rattle.rdm_bus.specs.declared.event.Step.{Step}
use Rattle.rdm_bus.specs.declared.event.Step.TheVariants as step
use Rattle.rdm_collector.specs.declared.transaction.Heard.{Heard}
use Rattle.rdm_collector.specs.declared.want.Want.{Want}
use Rattle.rdm_collector.specs.Collecting.{State, after_ask, after_poll, command_request, poll_request}
use Rattle.rdm_collector.specs.Requests.{type_of, request_of, queued_message}
use Rattle.rdm_bus.specs.BusRun.{Start, controller_at, is_message_heard, IsTransaction, IsPlayed, after, after_all, IsBusRun}
use Rattle.rdm_bus.specs.Numbering.{HasNumber, answered_in, last_answer, was_answered, NumberingHolds, PollingInTurnHolds, JobsAreNumbered, NumbersDiffer}
use Rattle.rdm_bus.proofs.Numbers.{number_at, from_none, same_number, stands_below, numbered, few_jobs}

-- ---- numbers

some_is : (x y : List ℕ) → Some x ≡ Some y → x ≡ y
some_is x y e = cc

first_number : (tn : ℕ) (f : Frame) → IsFrame f → f.tn ≡ tn → f.tn ≡ (tn + 0) % 256
first_number tn f fits is = omega (arith, fits.tn, is)

numbered_as : (tn m : ℕ) (sent : List ℕ) → m ≡ tn → HasNumber m sent → HasNumber tn sent
numbered_as tn m sent e is = subst (λ k. HasNumber k sent) e is

-- what an event sends, and whether it is a poll
abbrev pub sent_of : Event → List ℕ
sent_of (Bus sent poll fault reply job heard) = sent
sent_of (Arrived report message kept) = []
sent_of (Changed change message) = []

abbrev pub is_poll_of : Event → Bool
is_poll_of (Bus sent poll fault reply job heard) = poll
is_poll_of (Arrived report message kept) = false
is_poll_of (Changed change message) = false

sends : (s : Start) (waiting : State) (poll : Bool) (request : Frame) (f : Fault) (e : Event) (sent : List ℕ) → IsTransaction s.history waiting poll request f e → request.tn ≡ s.tn → sent_of e ≡ sent → HasNumber ((s.tn + 0) % 256) sent
sends s waiting poll request f e sent is number at =
    record { frame = request; is_frame = is.is_frame; text = sym at ∙ ap sent_of is.event_is; number = first_number s.tn request is.is_frame number }

first_sent : (s : Start) (p : Step) (e : Event) (sent : List ℕ) (f' : Fault) (sent' : List ℕ) (poll : Bool) (reply : Option (List ℕ)) (job : Option Job) (heard : Option Heard) → e ≡ Bus sent' poll f' reply job heard → IsPlayed s p e → sent_of e ≡ sent → HasNumber ((s.tn + 0) % 256) sent
first_sent s (step.Ask c f) e sent f' sent' poll reply job heard is played at = sends s (after_ask (controller_at s) c) false (command_request (controller_at s) c) f e sent played.1 refl at
first_sent s (step.Collect f) e sent f' sent' poll reply job heard is played at = sends s (after_poll (controller_at s)) true (poll_request (controller_at s)) f e sent played refl at
first_sent s (step.Arrive r) e sent f' sent' poll reply job heard is played at = absurd (subst (IsPlayed s (step.Arrive r)) is played)
first_sent s (step.Change c) e sent f' sent' poll reply job heard is played at = absurd (subst (IsPlayed s (step.Change c)) is played)

pub next_number : (tn n : ℕ) → ((tn + 1) % 256 + n) % 256 ≡ (tn + suc n) % 256
next_number tn n = omega arith

pub numbers : NumberingHolds
numbers s [] [] run n sent at = absurd cc
numbers s [] (e ∷ es) run n sent at = absurd run
numbers s (p ∷ ps) [] run n sent at = absurd run
numbers s (p ∷ ps) (Bus sent' poll f reply job heard ∷ es) run zero sent at =
    first_sent s p (Bus sent' poll f reply job heard) sent f sent' poll reply job heard refl run.0 (some_is sent' sent at)
numbers s (p ∷ ps) (Bus sent' poll f reply job heard ∷ es) run (suc n) sent at =
    numbered_as ((s.tn + suc n) % 256) (((s.tn + 1) % 256 + n) % 256) sent (next_number s.tn n) (numbers (after s (Bus sent' poll f reply job heard)) ps es run.1 n sent at)
numbers s (p ∷ ps) (Arrived r m kept ∷ es) run n sent at = numbers (after s (Arrived r m kept)) ps es run.1 n sent at
numbers s (p ∷ ps) (Changed c m ∷ es) run n sent at = numbers (after s (Changed c m)) ps es run.1 n sent at

-- ---- polls

pub same_uid_after : (s : Start) (es : List Event) → (after_all s es).uid ≡ s.uid
same_uid_after s [] = refl
same_uid_after s (e ∷ es) = same_uid_after (after s e) es

pub same_target : (s : Start) (es : List Event) → (after_all s es).target ≡ s.target
same_target s [] = refl
same_target s (e ∷ es) = same_target (after s e) es

same_want : (s : Start) (es : List Event) → (after_all s es).want ≡ s.want
same_want s [] = refl
same_want s (e ∷ es) = same_want (after s e) es

not_not : (b : Bool) → not (not b) ≡ b
not_not true = refl
not_not false = refl

unanswered_is : (s : Start) (es : List Event) → (after_all s es).unanswered ≡ not (was_answered s es)
unanswered_is s [] = sym (not_not s.unanswered)
unanswered_is s (Bus sent true f reply job heard ∷ es) =
    unanswered_is (after s (Bus sent true f reply job heard)) es
    ∙ ap (λ (b : Bool). not (last_answer b (flat_map answered_in es))) (not_not (is_message_heard heard))
unanswered_is s (Bus sent false f reply job heard ∷ es) = unanswered_is (after s (Bus sent false f reply job heard)) es
unanswered_is s (Arrived r m kept ∷ es) = unanswered_is (after s (Arrived r m kept)) es
unanswered_is s (Changed c m ∷ es) = unanswered_is (after s (Changed c m)) es

pub played_at : (s : Start) (steps : List Step) (before : List Event) (e : Event) (rest : List Event) → IsBusRun s steps (before ++ e ∷ rest) → (p : Step) × IsPlayed (after_all s before) p e
played_at s [] [] e rest run = absurd run
played_at s (p ∷ ps) [] e rest run = (p, run.0)
played_at s [] (x ∷ before) e rest run = absurd run
played_at s (p ∷ ps) (x ∷ before) e rest run = played_at (after s x) ps before e rest run.1

true_is_false : true ≡ false → ⊥
true_is_false e = cc

poll_sent : (s : Start) (p : Step) (sent : List ℕ) (f : Fault) (reply : Option (List ℕ)) (job : Option Job) (heard : Option Heard) → IsPlayed s p (Bus sent true f reply job heard) → sent ≡ frame_text (poll_request (controller_at s))
poll_sent s (step.Ask c f') sent f reply job heard is = absurd (true_is_false (ap is_poll_of is.1.event_is))
poll_sent s (step.Collect f') sent f reply job heard is = ap sent_of is.event_is
poll_sent s (step.Arrive r) sent f reply job heard is = absurd is
poll_sent s (step.Change c) sent f reply job heard is = absurd is

either_type : (answered : Bool) (want : Want) → cond (not answered) 1 (type_of want) ≡ cond answered (type_of want) 1
either_type true want = refl
either_type false want = refl

asks : (uid uid' target target' : Uid) (want want' : Want) (unanswered answered : Bool) (tn : ℕ) → uid ≡ uid' → target ≡ target' → want ≡ want' → unanswered ≡ not answered
    → frame_text (request_of uid tn (queued_message target (cond unanswered 1 (type_of want)))) ≡ frame_text (request_of uid' tn (queued_message target' (cond answered (type_of want') 1)))
asks uid uid' target target' want want' unanswered answered tn e1 e2 e3 e4 = rw (e1, e2, e3, e4, either_type answered want') refl

pub polls : PollingInTurnHolds
polls s steps es run before rest sent f reply job heard parts =
    let t : Start = after_all s before in
    let played = played_at s steps before (Bus sent true f reply job heard) rest (subst (IsBusRun s steps) parts run) in (
      t.tn,
      poll_sent t played.0 sent f reply job heard played.1
          ∙ asks t.uid s.uid t.target s.target t.want s.want t.unanswered (was_answered s before) t.tn (same_uid_after s before) (same_target s before) (same_want s before) (unanswered_is s before),
    )

-- ---- jobs

pub jobs : JobsAreNumbered
jobs h worker k job at =
    number_at h.setup.first_job 0 k (jobs_of (outbox_of h).workers worker (outbox_of h).accepted) job (numbered h worker) at
    ∙ ap (number_after h.setup.first_job) (sym (from_none k))

below : (js : List Job) (i : ℕ) (j : Job) → length js ≤ 4294967295 → slice_get js i ≡ Some j → i < 2 ^ 32
below js i j few at = omega (arith, stands_below 0 js i j (omega (arith, few)) at)

pub differ : NumbersDiffer
differ h worker i k job other one two same =
    let js : List Job = jobs_of (outbox_of h).workers worker (outbox_of h).accepted in
    let few = few_jobs h worker in
    same_number h.setup.first_job i k (below js i job few one) (below js k other few two) (sym (jobs h worker i job one) ∙ same ∙ jobs h worker k other two)
