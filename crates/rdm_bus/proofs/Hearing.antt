-- The requests of commands, and what the answers to transactions of a run are heard as.
use Rattle.std.proofs.Common.{◌≡◌, ℕ, zero, suc, ◌+◌, ◌%◌, ◌<◌, Bool, true, false, List, [], ◌∷◌, length, take, Option, Some, None, refl, sym, ap, subst, ◌∙◌, arith}
use Rattle.std.specs.Option.{option_map, option_and_then}
use Rattle.rdm_frame.specs.declared.uid.Uid.{Uid}
use Rattle.rdm_frame.specs.FrameText.{frame_text}
use Rattle.rdm_frame.specs.declared.fault.Fault.{Fault}
use Rattle.rdm_frame.specs.Faults.{request_heard}
use Rattle.rdm_outbox.specs.declared.job.Job.{Job}
use Rattle.rdm_responder.specs.History.{History}
use Rattle.rdm_responder.specs.Rules.{job_of}
use Rattle.rdm_collector.specs.declared.command.Command.{Command}
use Rattle.rdm_bus.specs.declared.event.Event.{Event}
use Rattle.rdm_bus.specs.declared.event.Event.TheVariants.{Bus, Arrived, Changed}
use Rattle.rdm_bus.specs.declared.event.Step.{Step}
use Rattle.rdm_bus.specs.declared.event.Step.TheVariants as step
use Rattle.rdm_collector.specs.declared.transaction.Heard.{Heard}
use Rattle.rdm_bus.specs.BusRun.{Start, controller_at, replied, came, transaction, IsTransaction, IsPlayed, after, after_all, IsBusRun}
use Rattle.rdm_collector.specs.Collecting.{State, after_ask, after_poll, command_request, heard_in}
use Rattle.rdm_collector.specs.Hearing.{IsHeardAs}
use Rattle.rdm_bus.specs.Hearing.{number_after, CommandSendingHolds, HearingHolds}
use Rattle.rdm_bus.specs.Numbering.{requests_in}
use Rattle.rdm_collector.specs.Requests.{request_of}
use Rattle.rdm_bus.proofs.Numbering.{sent_of, is_poll_of, next_number, same_uid_after, same_target, played_at}
use Rattle.rdm_collector.proofs.Hearing.{poll_heard, command_heard, one_alone}

-- ---- numbers

number_next : (s : Start) (e : Event) (before : List Event) → number_after (after s e) before ≡ number_after s (e ∷ before)
number_next s (Bus sent poll f reply job heard) before = next_number s.tn (length (requests_in before))
number_next s (Arrived r m kept) before = refl
number_next s (Changed c m) before = refl

number_is : (s : Start) (before : List Event) → (after_all s before).tn % 256 ≡ number_after s before
number_is s [] = ap (λ n. n % 256) (omega arith)
number_is s (e ∷ before) = number_is (after s e) before ∙ number_next s e before

small : (n m : ℕ) → n < 256 → n % 256 ≡ m → m ≡ n
small n m less e = omega (arith, less, e)

-- ---- what is sent for a command

first_number : (n : ℕ) → n < 256 → n ≡ (n + 0) % 256
first_number n less = omega (arith, less)

command_at : (s : Start) (p : Step) (e : Event) (c : Command) (f : Fault) → IsPlayed s p e → p ≡ step.Ask c f
    → IsTransaction s.history (after_ask (controller_at s) c) false (command_request (controller_at s) c) f e
command_at s p e c f is same = (subst (λ (q : Step). IsPlayed s q e) same is).1

some_step : (p q : Step) → Some p ≡ Some q → p ≡ q
some_step p q e = cc

pub commands : CommandSendingHolds
commands s [] es run k c f at = absurd cc
commands s (p ∷ ps) [] run k c f at = absurd run
commands s (p ∷ ps) (e ∷ es) run zero c f at =
    let t = command_at s p e c f run.0 (some_step p (step.Ask c f) at) in
    let text : List ℕ = frame_text (command_request (controller_at s) c) in
    let reply : Option (List ℕ) = replied s.history f text in
    let job : Option Job = option_and_then (job_of s.history) (request_heard f text) in
    let heard : Option Heard = option_map (heard_in (after_ask (controller_at s) c)) (came f reply) in (
      reply,
      job,
      heard,
      ap (λ (x : Event). Some x) t.event_is ∙ ap (λ n. Some (Bus (frame_text (request_of s.uid n c)) false f reply job heard)) (first_number s.tn t.is_frame.tn),
    )
commands s (p ∷ ps) (e ∷ es) run (suc k) c f at =
    let later = commands (after s e) ps es run.1 k c f at in (
      later.0,
      later.1,
      later.2,
      later.3 ∙ ap (λ n. Some (Bus (frame_text (request_of s.uid n c)) false f later.0 later.1 later.2)) (number_next s e (take k es)),
    )

-- ---- a transaction

abbrev heard_of : Event → Option Heard
heard_of (Bus sent poll fault reply job heard) = heard
heard_of (Arrived report message kept) = None
heard_of (Changed change message) = None

abbrev taken_by : State → Event → Option Heard
taken_by w (Bus sent poll fault reply job heard) = option_map (heard_in w) (came fault reply)
taken_by w (Arrived report message kept) = None
taken_by w (Changed change message) = None

parts_of : (h : History) (w : State) (p : Bool) (f : Fault) (text sent : List ℕ) (poll : Bool) (fault : Fault) (reply : Option (List ℕ)) (job : Option Job) (heard : Option Heard)
    → Bus sent poll fault reply job heard ≡ transaction h w p f text → (sent ≡ text) × (poll ≡ p) × (heard ≡ option_map (heard_in w) (came fault reply))
parts_of h w p f text sent poll fault reply job heard e = (ap sent_of e, ap is_poll_of e, ap heard_of e ∙ sym (ap (taken_by w) e))

carried_over : (d d' u u' : Uid) (n n' : ℕ) (sent sent' : List ℕ) (poll poll' : Bool) (c : Option (List ℕ)) (h h' : Option Heard)
    → d ≡ d' → u ≡ u' → n ≡ n' → sent ≡ sent' → poll ≡ poll' → h ≡ h' → IsHeardAs d' u' n' sent' poll' c h' → IsHeardAs d u n sent poll c h
carried_over d d' u u' n n' sent sent' poll poll' c h h' e1 e2 e3 e4 e5 e6 is = rw (e1, e2, e3, e4, e5, e6) is

heard_at : (s : Start) (before : List Event) (p : Step) (sent : List ℕ) (poll : Bool) (fault : Fault) (reply : Option (List ℕ)) (job : Option Job) (heard : Option Heard)
    → IsPlayed (after_all s before) p (Bus sent poll fault reply job heard) → IsHeardAs s.target s.uid (number_after s before) sent poll (came fault reply) heard
heard_at s before (step.Ask c f) sent poll fault reply job heard is =
    let t : Start = after_all s before in
    let parts = parts_of t.history (after_ask (controller_at t) c) false f _ sent poll fault reply job heard is.1.event_is in
    carried_over s.target t.target s.uid t.uid (number_after s before) t.tn sent _ poll false (came fault reply) heard _
    (sym (same_target s before)) (sym (same_uid_after s before)) (small t.tn (number_after s before) is.1.is_frame.tn (number_is s before)) parts.0 parts.1 parts.2
    (command_heard (controller_at t) c (came fault reply) is.1.is_frame)
heard_at s before (step.Collect f) sent poll fault reply job heard is =
    let t : Start = after_all s before in
    let parts = parts_of t.history (after_poll (controller_at t)) true f _ sent poll fault reply job heard is.event_is in
    carried_over s.target t.target s.uid t.uid (number_after s before) t.tn sent sent poll true (came fault reply) heard _
    (sym (same_target s before)) (sym (same_uid_after s before)) (small t.tn (number_after s before) is.is_frame.tn (number_is s before)) refl parts.1 parts.2
    (poll_heard (controller_at t) sent (came fault reply))
heard_at s before (step.Arrive r) sent poll fault reply job heard is = absurd is
heard_at s before (step.Change change) sent poll fault reply job heard is = absurd is

pub answers : HearingHolds
answers s steps es run before rest sent poll fault reply job heard parts h =
    let played = played_at s steps before (Bus sent poll fault reply job heard) rest (subst (IsBusRun s steps) parts run) in
    let is = heard_at s before played.0 sent poll fault reply job heard played.1 in (
      λ e. subst (IsHeardAs s.target s.uid (number_after s before) sent poll (came fault reply)) e is,
      λ other. one_alone s.target s.uid (number_after s before) sent poll (came fault reply) heard h is other,
    )
