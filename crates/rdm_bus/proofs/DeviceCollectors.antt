-- A collector for any device in the controller's place hears each answer of the device as the controller does: it is an ACK.
use Rattle.std.proofs.Common.{◌≡◌, ℕ, ◌<◌, ◌==◌, ◌&&◌, ◌||◌, Bool, true, false, cond, List, [], ◌∷◌, ◌++◌, length, drop, map, Option, Some, None, IfSome, refl, sym, ap, subst, ◌∙◌, arith, append_assoc}
use Rattle.std.specs.Prelude.{slice_index}
use Rattle.std.specs.Option.{option_map, option_map_or, option_and_then, option_to_list}
use Rattle.std.specs.List.{All}
use Rattle.std.proofs.Math.Seq.{drop-append_seam}
use Rattle.std.proofs.lemmas.List.{append-nil, map-append}
use Rattle.std.proofs.lemmas.List.Elements.{All-head, All-tail}
use Rattle.rdm_frame.specs.declared.frame.Frame.{Frame}
use Rattle.rdm_frame.specs.Addressing.{same_uid}
use Rattle.rdm_frame.specs.FrameText.{frame_text, IsFrame}
use Rattle.rdm_frame.specs.Reading.{frame_in}
use Rattle.rdm_frame.specs.declared.message.Message.{Message}
use Rattle.rdm_frame.specs.declared.fault.Fault.{Fault}
use Rattle.rdm_frame.specs.declared.fault.Fault.TheVariants as fault
use Rattle.rdm_frame.specs.Faults.{request_heard, altered, IsFault}
use Rattle.rdm_commands.specs.declared.jobs.ask.Ask.{Ask}
use Rattle.rdm_params.specs.Jobs.Laws.{GetQueues, GetStatuses, SetFetchesNothing}
use Rattle.rdm_outbox.specs.declared.job.Job.{Job}
use Rattle.rdm_responder.specs.Rules.{account_of, reply_of, job_of}
use Rattle.rdm_collector.specs.declared.command.Command.{Command}
use Rattle.rdm_collector.specs.declared.reply.Response.TheVariants.{Ack}
use Rattle.rdm_collector.specs.declared.transaction.Heard.{Heard}
use Rattle.rdm_collector.specs.declared.transaction.Heard.TheVariants as heard
use Rattle.rdm_collector.specs.declared.any_device.collected.Collected.{Collected}
use Rattle.rdm_collector.specs.Answers.{is_reply, message_of}
use Rattle.rdm_collector.specs.Requests.{class_of}
use Rattle.rdm_collector.specs.Collecting as collecting
use Rattle.rdm_collector.specs.Recording.{PrefixLaw, NoLossLaw, join}
use Rattle.rdm_collector.specs.AnyDevice.Collecting.{DeviceState, after_ask, after_poll, after_over, after_frame, collected}
use Rattle.rdm_collector.proofs.ReadBack.{read_as, read_as_itself, read_back}
use Rattle.rdm_collector.proofs.Refusals.{not_skipped}
use Rattle.rdm_bus.specs.declared.event.Event.{Event}
use Rattle.rdm_bus.specs.declared.event.Event.TheVariants.{Bus, Arrived, Changed}
use Rattle.rdm_bus.specs.declared.event.Step.{Step}
use Rattle.rdm_bus.specs.declared.event.Step.TheVariants as step
use Rattle.rdm_bus.specs.BusRun.{Start, controller_at, replied, came, transaction, IsPlayed, is_message_heard, after, after_all, IsBusRun}
use Rattle.rdm_bus.specs.BusLaws.{message_in, dispensed_by, recorded, recorded_by, recorded_if}
use Rattle.rdm_bus.specs.DeviceCollectors.{collector_at, sent_at, sent_in, over_with, after_step, after_steps, SendsTheSame, IsOfBytes, messages_of, DeviceCollectorLawsHold, RecordingARepeatTwiceIsRuledOut, SkippingALostOneIsRuledOut}
use Rattle.rdm_bus.proofs.BusRuns.{Reaches, Whole, Lost, Spoilt, reaches, poll_ask, reply_is, bus_laws_hold}
use Rattle.rdm_bus.proofs.Queues.{Poll, Unanswered, Answered, poll_becomes}
use Rattle.rdm_bus.proofs.Systems.{IsText, altered_text}

-- A state after an event is a collector in the controller's place, which recorded the messages of the event besides.
record Follows (s : Start) (before : List Collected) (d : DeviceState) (e : Event) : Type 0 where
  pub again : Bool
  pub lost : Bool
  pub more : List Collected
  pub is : d ≡ collector_at (after s e) again lost (before ++ more)
  pub messages : messages_of more ≡ recorded_by e

-- nothing is recorded of it
none_more : (s : Start) (again lost : Bool) (before : List Collected) (d : DeviceState) (e : Event) → d ≡ collector_at (after s e) again lost before → recorded_by e ≡ []
    → Follows s before d e
none_more s again lost before d e is none = record {
  again = again;
  lost = lost;
  more = [];
  is = is ∙ ap (λ (cs : List Collected). collector_at (after s e) again lost cs) (sym (append-nil before));
  messages = sym none;
}

-- ---- a command

over_either : (d : DeviceState) (c : Command) (g : Frame) (own is : Bool) → (same_uid g.src d.target && same_uid g.dst d.uid) ≡ own
    → is_reply d.tn (class_of c.action) c.sub c.pid g ≡ is → after_over (after_frame (after_ask d c) g) ≡ after_over (after_ask d c)
over_either d c g true true own_is is_it = rw (own_is, is_it) refl
over_either d c g true false own_is is_it = rw (own_is, is_it) refl
over_either d c g false is own_is is_it = rw own_is refl

over_found : (d : DeviceState) (c : Command) (found : Option Frame) → after_over (option_map_or (after_frame (after_ask d c)) found (after_ask d c)) ≡ after_over (after_ask d c)
over_found d c None = refl
over_found d c (Some g) =
    over_either d c g (same_uid g.src d.target && same_uid g.dst d.uid) (is_reply d.tn (class_of c.action) c.sub c.pid g) refl refl

over_command : (d : DeviceState) (c : Command) (o : Option (List ℕ)) → over_with (after_ask d c) o ≡ after_over (after_ask d c)
over_command d c None = refl
over_command d c (Some b) = over_found d c (frame_in b)

not_recorded : (c : Bool) (e : Event) → dispensed_by e ≡ [] → recorded_if c e ≡ []
not_recorded true e none = none
not_recorded false e none = refl

commanded : (s : Start) (again lost : Bool) (before : List Collected) (c : Command) (f : Fault) (sent : List ℕ)
    → Follows s before (over_with (after_ask (collector_at s again lost before) c) (came f (replied s.history f sent)))
    (transaction s.history (collecting.after_ask (controller_at s) c) false f sent)
commanded s again lost before c f sent =
    let e : Event = transaction s.history (collecting.after_ask (controller_at s) c) false f sent in
    none_more s again lost before _ e (over_command (collector_at s again lost before) c (came f (replied s.history f sent)))
    (not_recorded (is_message_heard (option_map (collecting.heard_in (collecting.after_ask (controller_at s) c)) (came f (replied s.history f sent)))) e refl)

-- ---- a reply to a poll is an ACK

abbrev IsAcked : Option (List ℕ) → Type 0
IsAcked None = Unit {0}
IsAcked (Some bytes) = (r : Frame) × (bytes ≡ frame_text r) × (r.port ≡ 0)

whole_acked : (s : Start) (ask : Ask) → IsFrame (collecting.poll_request (controller_at s)) → Poll (account_of s.history) (account_of s.history).setup.uid (collecting.poll_request (controller_at s)) ask
    → IsAcked (reply_of s.history (frame_text (collecting.poll_request (controller_at s))))
whole_acked s ask fits (Unanswered none same) =
    let silent : reply_of s.history (frame_text (collecting.poll_request (controller_at s))) ≡ None = reply_is s.history _ _ (read_as_itself (collecting.poll_request (controller_at s)) fits) ∙ none in
    subst IsAcked (sym silent) tt
whole_acked s ask fits (Answered r port some is same) =
    let reply : reply_of s.history (frame_text (collecting.poll_request (controller_at s))) ≡ Some (frame_text r) = reply_is s.history _ _ (read_as_itself (collecting.poll_request (controller_at s)) fits) ∙ some in
    subst IsAcked (sym reply) (r, refl, port)

acked : (s : Start) (f : Fault) → IsFrame (collecting.poll_request (controller_at s)) → Reaches f (frame_text (collecting.poll_request (controller_at s)))
    → IsAcked (replied s.history f (frame_text (collecting.poll_request (controller_at s))))
acked s f fits (Whole e) =
    let asks = poll_ask (account_of s.history).parameters s.unanswered s.want in
    subst (λ (o : Option (List ℕ)). IsAcked (option_and_then (reply_of s.history) o)) (sym e)
    (whole_acked s asks.0 fits (poll_becomes (account_of s.history) (account_of s.history).setup.uid s.target s.uid s.tn (collecting.poll_type (controller_at s)) asks.0 asks.1))
acked s f fits (Lost e) = subst (λ (o : Option (List ℕ)). IsAcked (option_and_then (reply_of s.history) o)) (sym e) tt
acked s f fits (Spoilt bytes e none) =
    let silent : reply_of s.history bytes ≡ None = reply_is s.history bytes None none in
    subst (λ (o : Option (List ℕ)). IsAcked (option_and_then (reply_of s.history) o)) (sym e) (subst IsAcked (sym silent) tt)

-- ---- what is heard of it

-- Nothing comes, or no frame, or the whole reply, which is read as an ACK.
data Comes (reply o : Option (List ℕ)) : Type 0 where
  Silence : o ≡ None → Comes reply o
  NoFrame : (bytes : List ℕ) → o ≡ Some bytes → frame_in bytes ≡ None → Comes reply o
  AsSent : (bytes : List ℕ) (g : Frame) → o ≡ Some bytes → reply ≡ Some bytes → frame_in bytes ≡ Some g → g.port ≡ 0 → Comes reply o

as_sent : (bytes : List ℕ) (r : Frame) → bytes ≡ frame_text r → r.port ≡ 0 → Comes (Some bytes) (Some bytes)
as_sent bytes r is port = AsSent bytes (read_back r) refl refl (ap frame_in is ∙ read_as r) port

comes : (f : Fault) (reply : Option (List ℕ)) → IsFault f → IfSome reply (λ slots. (i : ℕ) → slice_index slots i < 256) → IsAcked reply → Comes reply (came f reply)
comes f None i bytes is = Silence refl
comes fault.None (Some b) i bytes is = as_sent b is.0 is.1 is.2
comes fault.LostRequest (Some b) i bytes is = as_sent b is.0 is.1 is.2
comes fault.LostReply (Some b) i bytes is = Silence refl
comes (fault.BadRequest k x) (Some b) i bytes is = as_sent b is.0 is.1 is.2
comes (fault.BadReply k x) (Some b) i bytes is = NoFrame (altered b k x) refl (altered_text b k x (IsText is.0 is.1) bytes i.0 i.1)

-- ---- a poll

-- it, while it waits for the answer
abbrev waiting : Start → Bool → Bool → List Collected → DeviceState
waiting s again lost before = after_poll (collector_at s again lost before)

-- what the controller takes a frame for, while it waits
abbrev taken_for : Start → Option Frame → Heard
taken_for s found = option_map_or (collecting.heard_as (collecting.after_poll (controller_at s))) found heard.Ignored

-- what a frame makes of it
abbrev FollowsFrame : Start → Bool → Bool → List Collected → List ℕ → Fault → Option (List ℕ) → Option Job → Option Frame → Type 0
FollowsFrame s again lost before sent f reply job found =
    Follows s before (after_over (option_map_or (after_frame (waiting s again lost before)) found (waiting s again lost before)))
    (Bus sent true f reply job (Some (taken_for s found)))

-- it answers exactly if it is for the collector, and has the number of the poll and the class of a response
acked_frame : (s : Start) (again lost : Bool) (before : List Collected) (sent : List ℕ) (f : Fault) (reply : Option (List ℕ)) (job : Option Job) (g : Frame) (own is : Bool)
    → (same_uid g.src s.target && same_uid g.dst s.uid) ≡ own → ((g.tn == s.tn) && ((g.class == 0x21) || (g.class == 0x31))) ≡ is → g.port ≡ 0
    → option_to_list (option_and_then message_in reply) ≡ message_of g ∷ [] → FollowsFrame s again lost before sent f reply job (Some g)
acked_frame s again lost before sent f reply job g true true own_is is_it port one = rw (own_is, is_it, port) (record {
  again = s.unanswered;
  lost = false;
  more = collected s.unanswered (lost || s.unanswered) g Ack ∷ [];
  is = refl;
  messages = sym one;
})
acked_frame s again lost before sent f reply job g true false own_is is_it port one =
    rw (own_is, is_it)
    (none_more s s.unanswered (lost || s.unanswered) before (after_over (waiting s again lost before)) (Bus sent true f reply job (Some heard.Ignored)) refl refl)
acked_frame s again lost before sent f reply job g false is own_is is_it port one =
    rw own_is
    (none_more s s.unanswered (lost || s.unanswered) before (after_over (waiting s again lost before)) (Bus sent true f reply job (Some heard.Ignored)) refl refl)

some_frame : (s : Start) (again lost : Bool) (before : List Collected) (sent : List ℕ) (f : Fault) (reply : Option (List ℕ)) (job : Option Job) (g : Frame)
    → g.port ≡ 0 → option_to_list (option_and_then message_in reply) ≡ message_of g ∷ [] → FollowsFrame s again lost before sent f reply job (Some g)
some_frame s again lost before sent f reply job g port one =
    acked_frame s again lost before sent f reply job g (same_uid g.src s.target && same_uid g.dst s.uid)
    ((g.tn == s.tn) && ((g.class == 0x21) || (g.class == 0x31))) refl refl port one

polled : (s : Start) (again lost : Bool) (before : List Collected) (sent : List ℕ) (f : Fault) (reply : Option (List ℕ)) (job : Option Job) (o : Option (List ℕ)) → Comes reply o
    → Follows s before (over_with (waiting s again lost before) o)
    (Bus sent true f reply job (option_map (collecting.heard_in (collecting.after_poll (controller_at s))) o))
polled s again lost before sent f reply job o way =
    let P : Option (List ℕ) → Type 0 = λ o. Follows s before (over_with (waiting s again lost before) o)
    (Bus sent true f reply job (option_map (collecting.heard_in (collecting.after_poll (controller_at s))) o)) in
    let Q : Option Frame → Type 0 = FollowsFrame s again lost before sent f reply job in
    elim way [
      | Silence e ↦ subst P (sym e) (none_more s s.unanswered (lost || s.unanswered) before (after_over (waiting s again lost before)) (Bus sent true f reply job None) refl refl)
      | NoFrame b e none ↦ subst P (sym e) (subst Q (sym none)
          (none_more s s.unanswered (lost || s.unanswered) before (after_over (waiting s again lost before)) (Bus sent true f reply job (Some heard.Ignored)) refl refl))
      | AsSent b g e r text port ↦ subst P (sym e) (subst Q (sym text) (some_frame s again lost before sent f reply job g port
          (ap (λ (o : Option (List ℕ)). option_to_list (option_and_then message_in o)) r ∙ ap (λ (o : Option Frame). option_to_list (option_map message_of o)) text)))
    ]

-- ---- a step

follows : (s : Start) (again lost : Bool) (before : List Collected) (p : Step) (e : Event) → IsPlayed s p e → IsOfBytes e
    → Follows s before (after_step (collector_at s again lost before) p e) e
follows s again lost before (step.Ask c f) e is bytes =
    let t = is.1 in
    subst (λ (v : Event). Follows s before (after_step (collector_at s again lost before) (step.Ask c f) v) v) (sym t.event_is)
    (commanded s again lost before c f (frame_text (collecting.command_request (controller_at s) c)))
follows s again lost before (step.Collect f) e is bytes =
    let request : Frame = collecting.poll_request (controller_at s) in
    let reply : Option (List ℕ) = replied s.history f (frame_text request) in
    subst (λ (v : Event). Follows s before (after_step (collector_at s again lost before) (step.Collect f) v) v) (sym is.event_is)
    (polled s again lost before (frame_text request) f reply (option_and_then (job_of s.history) (request_heard f (frame_text request))) (came f reply)
    (comes f reply is.is_fault (subst IsOfBytes is.event_is bytes) (acked s f is.is_frame (reaches f request is.is_fault is.is_frame))))
follows s again lost before (step.Arrive r) (Bus sent poll f reply job heard) is bytes = absurd is
follows s again lost before (step.Arrive r) (Arrived reported m kept) is bytes = none_more s again lost before _ (Arrived reported m kept) refl refl
follows s again lost before (step.Arrive r) (Changed change m) is bytes = absurd is
follows s again lost before (step.Change change) (Bus sent poll f reply job heard) is bytes = absurd is
follows s again lost before (step.Change change) (Arrived reported m kept) is bytes = absurd is
follows s again lost before (step.Change change) (Changed changed m) is bytes = none_more s again lost before _ (Changed changed m) refl refl

sends : (s : Start) (again lost : Bool) (before : List Collected) (p : Step) (e : Event) → IsPlayed s p e → sent_at (collector_at s again lost before) p ≡ sent_in e
sends s again lost before (step.Ask c f) e is = sym (ap sent_in is.1.event_is)
sends s again lost before (step.Collect f) e is = sym (ap sent_in is.event_is)
sends s again lost before (step.Arrive r) (Bus sent poll f reply job heard) is = absurd is
sends s again lost before (step.Arrive r) (Arrived reported m kept) is = refl
sends s again lost before (step.Arrive r) (Changed change m) is = absurd is
sends s again lost before (step.Change change) (Bus sent poll f reply job heard) is = absurd is
sends s again lost before (step.Change change) (Arrived reported m kept) is = absurd is
sends s again lost before (step.Change change) (Changed changed m) is = refl

-- ---- a run

record Ran (s : Start) (before : List Collected) (d : DeviceState) (events : List Event) : Type 0 where
  pub again : Bool
  pub lost : Bool
  pub more : List Collected
  pub is : d ≡ collector_at (after_all s events) again lost (before ++ more)
  pub messages : messages_of more ≡ recorded events

then_ran : (s : Start) (before : List Collected) (d : DeviceState) (p : Step) (ps : List Step) (e : Event) (es : List Event) → (one : Follows s before (after_step d p e) e)
    → Ran (after s e) (before ++ one.more) (after_steps (collector_at (after s e) one.again one.lost (before ++ one.more)) ps es) es
    → Ran s before (after_steps d (p ∷ ps) (e ∷ es)) (e ∷ es)
then_ran s before d p ps e es one others = record {
  again = others.again;
  lost = others.lost;
  more = one.more ++ others.more;
  is = ap (λ (x : DeviceState). after_steps x ps es) one.is ∙ others.is
      ∙ ap (λ (cs : List Collected). collector_at (after_all (after s e) es) others.again others.lost cs) (append_assoc before one.more others.more);
  messages = map-append (λ (c : Collected). c.message) one.more others.more ∙ ap (λ (ms : List Message). ms ++ messages_of others.more) one.messages
      ∙ ap (λ (ms : List Message). recorded_by e ++ ms) others.messages;
}

ran : (s : Start) (again lost : Bool) (before : List Collected) (steps : List Step) (es : List Event) → IsBusRun s steps es → All (λ e. IsOfBytes e) es
    → SendsTheSame (collector_at s again lost before) steps es × Ran s before (after_steps (collector_at s again lost before) steps es) es
ran s again lost before [] [] run bytes =
    (tt, record { again = again; lost = lost; more = []; is = ap (λ (cs : List Collected). collector_at s again lost cs) (sym (append-nil before)); messages = refl })
ran s again lost before [] (e ∷ es) run bytes = absurd run
ran s again lost before (p ∷ ps) [] run bytes = absurd run
ran s again lost before (p ∷ ps) (e ∷ es) run bytes =
    let one = follows s again lost before p e run.0 (All-head (λ e. IsOfBytes e) e es bytes) in
    let others = ran (after s e) one.again one.lost (before ++ one.more) ps es run.1 (All-tail (λ e. IsOfBytes e) e es bytes) in
    let P : DeviceState → Type 0 = λ x. SendsTheSame x ps es in
    ((sends s again lost before p e run.0, subst P (sym one.is) others.0), then_ran s before (collector_at s again lost before) p ps e es one others.1)

-- ---- the laws

prefix_of : (u u' : Bool) (d r r' : List Message) → u' ≡ u → r' ≡ r → PrefixLaw u d r → PrefixLaw u' d r'
prefix_of u u' d r r' e1 e2 law = rw (e1, e2) law

no_loss_of : (u u' : Bool) (g r r' : List Message) → u' ≡ u → r' ≡ r → NoLossLaw u g r → NoLossLaw u' g r'
no_loss_of u u' g r r' e1 e2 law = rw (e1, e2) law

pub laws_hold : GetQueues → GetStatuses → SetFetchesNothing → DeviceCollectorLawsHold
laws_hold queues statuses sets s again lost before steps es run bytes =
    let done = ran s again lost before steps es run bytes in
    let laws = bus_laws_hold queues statuses sets s steps es run in
    let unanswered = ap (λ (d : DeviceState). d.unanswered) done.1.is in (
      done.0,
      record {
        collected = done.1.more;
        is_recorded = ap (λ (d : DeviceState). d.recorded) done.1.is;
        what_was_heard = done.1.messages;
        prefix = prefix_of _ _ _ _ _ unanswered done.1.messages laws.prefix;
        no_loss = no_loss_of _ _ _ _ _ unanswered done.1.messages laws.no_loss;
      },
    )

-- ---- what they rule out

-- what two lists have in common at the front goes
behind : (xs ys zs : List Collected) → xs ++ ys ≡ xs ++ zs → ys ≡ zs
behind xs ys zs e = sym (drop-append_seam xs ys) ∙ ap (λ (cs : List Collected). drop (length xs) cs) e ∙ drop-append_seam xs zs

pub recording_a_repeat_twice : RecordingARepeatTwiceIsRuledOut
recording_a_repeat_twice start before after events c one twice law =
    let both = behind before law.collected (c ∷ c ∷ []) (sym law.is_recorded ∙ twice) in
    omega (arith, ap length (sym (ap messages_of both) ∙ law.what_was_heard ∙ one))

pub skipping_a_lost_one : SkippingALostOneIsRuledOut
skipping_a_lost_one start before after events lost next two other one law =
    let both = ap messages_of (behind before law.collected (next ∷ []) (sym law.is_recorded ∙ one)) in
    not_skipped lost next.message other law.prefix.rest (ap (λ (ms : List Message). join ms ++ law.prefix.rest) (sym both) ∙ law.prefix.prefix ∙ ap join two)
