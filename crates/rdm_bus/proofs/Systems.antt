-- A step that is played makes the trace of a system one event longer.
use Rattle.std.proofs.Common.{◌≡◌, ℕ, ◌+◌, ◌%◌, ◌<◌, ◌≤◌, Bool, true, false, not, cond, List, [], ◌∷◌, ◌++◌, length, Option, Some, None, IfSome, refl, sym, ap, subst, ◌∙◌, arith, length-append, length-set}
use Rattle.std.specs.Prelude.{slice_index}
use Rattle.std.specs.Option.{option_map, option_map_or, option_and_then, option_to_list}
use Rattle.std.specs.List.{AllByRecursion}
use Rattle.std.proofs.lemmas.List.{append-nil}
use Rattle.std.proofs.lemmas.List.Concat.{flat_map-append}
use Rattle.std.proofs.lemmas.List.Sums.{fold_push}
use Rattle.rdm_frame.specs.declared.uid.Uid.{Uid}
use Rattle.rdm_frame.specs.declared.frame.Frame.{Frame}
use Rattle.rdm_frame.specs.Addressing.{is_broadcast}
use Rattle.rdm_frame.specs.Discovery.{branch_reply}
use Rattle.rdm_frame.specs.FrameText.{head_slots, frame_text, IsFrame}
use Rattle.rdm_frame.specs.Reading.{frame_in}
use Rattle.rdm_frame.specs.declared.message.Message.{Message}
use Rattle.rdm_frame.specs.declared.fault.Fault.{Fault}
use Rattle.rdm_frame.specs.declared.fault.Fault.TheVariants as fault
use Rattle.rdm_frame.specs.Faults.{altered, request_heard, IsFault}
use Rattle.rdm_frame.proofs.Alterations.{none_in, text_length, raised_is_no_frame, altered_is_no_frame}
use Rattle.rdm_outbox.specs.declared.job.Job.{Job}
use Rattle.rdm_responder.specs.History.{History}
use Rattle.rdm_responder.specs.Lawful.{IsLawful}
use Rattle.rdm_responder.specs.Requests.{Request, Ignored, Branch, Muting, Get, Set, request_in}
use Rattle.rdm_responder.specs.Rules.{Account, Response, account_of, answer_to, answer_with, job_with, reply_of, job_of}
use Rattle.rdm_bus.specs.declared.event.Event.{Event}
use Rattle.rdm_bus.specs.declared.event.Event.TheVariants.{Bus}
use Rattle.rdm_bus.specs.declared.event.Step.{Step}
use Rattle.rdm_collector.specs.declared.transaction.Heard.{Heard}
use Rattle.rdm_collector.specs.declared.transaction.Heard.TheVariants as heard
use Rattle.rdm_collector.specs.Answers.{message_of}
use Rattle.rdm_collector.specs.Collecting.{State, after_poll, heard_as, heard_in, without_transaction, after_frame, after_hearing}
use Rattle.rdm_bus.specs.BusRun.{Start, controller_at, replied, came, transaction, IsPlayed, reply_in, after_reply, is_message_heard, after, after_all, IsBusRun, IsAlteredInVain}
use Rattle.rdm_bus.specs.BusLaws.{dispensed_by, recorded, recorded_by, recorded_if}
use Rattle.rdm_bus.specs.Happened.{reported_in}
use Rattle.rdm_bus.specs.Headline.{Headline, HeadlineHolds, unclosed}
use Rattle.rdm_bus.specs.Systems.{Played, Stands, IsTrace}
use Rattle.rdm_bus.proofs.BusRuns.{reply_is}

-- ---- what is altered

-- A reply is the text of a frame, or has the 24 bytes of an answer in discovery.
pub data IsReplyText (r : List ℕ) : Type 0 where
  IsText : (g : Frame) → r ≡ frame_text g → IsReplyText r
  IsBranch : length r ≡ 24 → IsReplyText r

some_is : (x r : List ℕ) → Some x ≡ Some r → r ≡ x
some_is x r e = cc

text_if : (b : Bool) (g : Frame) (r : List ℕ) → cond b None (Some (frame_text g)) ≡ Some r → IsReplyText r
text_if true g r e = absurd cc
text_if false g r e = IsText g (some_is _ r e)

branch_if : (b : Bool) (x r : List ℕ) → length x ≡ 24 → cond b (Some x) None ≡ Some r → IsReplyText r
branch_if true x r n e = IsBranch (ap length (some_is x r e) ∙ n)
branch_if false x r n e = absurd cc

text_of : (own : Uid) (f : Frame) (count : ℕ) (p : Response) (r : List ℕ) → answer_with own f count p ≡ Some r → IsReplyText r
unfolding answer_with
text_of own f count p r e = text_if (is_broadcast f.dst) _ r e

branch_slots : (u : Uid) → length (branch_reply u) ≡ 24
unfolding branch_reply
branch_slots u = refl

reply_text : (a : Account) (q : Request) (r : List ℕ) → answer_to a q ≡ Some r → IsReplyText r
reply_text a Ignored r e = absurd cc
reply_text a (Branch l u) r e = branch_if _ (branch_reply a.setup.uid) r (branch_slots a.setup.uid) e
reply_text a (Muting m f) r e = text_of _ f _ _ r e
reply_text a (Get f) r e = text_of _ f _ _ r e
reply_text a (Set f) r e = text_of _ f _ _ r e

text_is_long : (g : Frame) → 26 ≤ length (frame_text g)
unfolding head_slots
text_is_long g = omega (arith, text_length g, length-append (head_slots g) g.body)

pub altered_text : (r : List ℕ) (k x : ℕ) → IsReplyText r → ((i : ℕ) → slice_index r i < 256) → 0 < x → x < 256 → frame_in (altered r k x) ≡ None
altered_text r k x (IsBranch n) bytes some small =
    none_in (altered r k x) (λ g e. omega (arith, text_is_long g, ap length e, length-set r (k % length r) ((slice_index r (k % length r) + x) % 256)))
altered_text r k x (IsText g e) bytes some small =
    let P : List ℕ → Type 0 = λ t. ((i : ℕ) → slice_index t i < 256) → frame_in (altered t k x) ≡ None in
    let long : 0 < length (frame_text g) = omega (arith, text_is_long g) in
    subst P (sym e) (λ small_slots. raised_is_no_frame g (k % length (frame_text g)) x (omega arith) (small_slots (k % length (frame_text g))) some small) bytes

reply_altered : (h : History) (w : State) (sent : List ℕ) (k x : ℕ) (o : Option (List ℕ)) → reply_of h sent ≡ o → IfSome o (λ slots. (i : ℕ) → slice_index slots i < 256) → 0 < x → x < 256 → IfSome (option_map (heard_in w) (came (fault.BadReply k x) o)) (λ h. h ≡ heard.Ignored)
reply_altered h w sent k x None e bytes some small = tt
reply_altered h w sent k x (Some r) e bytes some small =
    ap (λ (found : Option Frame). option_map_or (heard_as w) found heard.Ignored) (altered_text r k x (reply_text (account_of h) (request_in (account_of h).setup.uid (frame_in sent)) r e) bytes some small)

job_is : (h : History) (bytes : List ℕ) → frame_in bytes ≡ None → job_of h bytes ≡ None
job_is h bytes e = ap (λ (o : Option Frame). job_with (account_of h) (request_in (account_of h).setup.uid o)) e

in_vain_of : (h : History) (w : State) (poll : Bool) (f : Fault) (request : Frame) → IsFault f → IsFrame request → IfSome (replied h f (frame_text request)) (λ slots. (i : ℕ) → slice_index slots i < 256) → IsAlteredInVain (transaction h w poll f (frame_text request))
in_vain_of h w poll fault.None request i fits bytes = tt
in_vain_of h w poll fault.LostRequest request i fits bytes = tt
in_vain_of h w poll fault.LostReply request i fits bytes = tt
in_vain_of h w poll (fault.BadRequest k x) request i fits bytes =
    let none = altered_is_no_frame request k x fits i.0 i.1 in
    (reply_is h (altered (frame_text request) k x) None none, job_is h (altered (frame_text request) k x) none)
in_vain_of h w poll (fault.BadReply k x) request i fits bytes = reply_altered h w (frame_text request) k x (reply_of h (frame_text request)) refl bytes i.0 i.1

pub in_vain : (h : History) (w : State) (poll : Bool) (f : Fault) (request : Frame) (e : Event) → e ≡ transaction h w poll f (frame_text request) → IsFault f → IsFrame request → IfSome (reply_in e) (λ slots. (i : ℕ) → slice_index slots i < 256) → IsAlteredInVain e
in_vain h w poll f request e is i fits bytes =
    let P : Event → Type 0 = λ v. IfSome (reply_in v) (λ slots. (i : ℕ) → slice_index slots i < 256) in
    subst IsAlteredInVain (sym is) (in_vain_of h w poll f request i fits (subst P is bytes))

-- ---- the collector after a poll

-- What bytes do to a collector: it takes a message, or it has heard none.
data Hearing (w : State) (b : List ℕ) : Type 0 where
  Takes : (g : Frame) → frame_in b ≡ Some g → heard_in w b ≡ heard.Message → after_hearing w b ≡ after_frame w g heard.Message → Hearing w b
  Leaves : is_message_heard (Some (heard_in w b)) ≡ false → without_transaction (after_hearing w b) ≡ without_transaction w → Hearing w b

hearing_frame : (w : State) (b : List ℕ) (g : Frame) (k : Heard) → frame_in b ≡ Some g → heard_as w g ≡ k → Hearing w b
hearing_frame w b g heard.Message e is =
    Takes g e (ap (λ (o : Option Frame). option_map_or (heard_as w) o heard.Ignored) e ∙ is)
    (ap (λ (o : Option Frame). option_map_or (λ f. after_frame w f (heard_as w f)) o w) e ∙ ap (after_frame w g) is)
hearing_frame w b g heard.Reply e is =
    Leaves (ap (λ (o : Option Frame). is_message_heard (Some (option_map_or (heard_as w) o heard.Ignored))) e ∙ ap (λ (k : Heard). is_message_heard (Some k)) is)
    (ap (λ (o : Option Frame). without_transaction (option_map_or (λ f. after_frame w f (heard_as w f)) o w)) e ∙ ap (λ (k : Heard). without_transaction (after_frame w g k)) is)
hearing_frame w b g heard.Ignored e is =
    Leaves (ap (λ (o : Option Frame). is_message_heard (Some (option_map_or (heard_as w) o heard.Ignored))) e ∙ ap (λ (k : Heard). is_message_heard (Some k)) is)
    (ap (λ (o : Option Frame). without_transaction (option_map_or (λ f. after_frame w f (heard_as w f)) o w)) e ∙ ap (λ (k : Heard). without_transaction (after_frame w g k)) is)

hearing_found : (w : State) (b : List ℕ) (found : Option Frame) → frame_in b ≡ found → Hearing w b
hearing_found w b None e =
    Leaves (ap (λ (o : Option Frame). is_message_heard (Some (option_map_or (heard_as w) o heard.Ignored))) e)
    (ap (λ (o : Option Frame). without_transaction (option_map_or (λ f. after_frame w f (heard_as w f)) o w)) e)
hearing_found w b (Some g) e = hearing_frame w b g (heard_as w g) e refl

-- the collector after a transaction
abbrev closed : Start → Bool → List Message → State
closed s u ms = record { uid = s.uid; target = s.target; want = s.want; tn = (s.tn + 1) % 256; transaction = None; unanswered = u; recorded = ms }

closed_same : (s : Start) (u u' : Bool) (ms ms' : List Message) → u ≡ u' → ms ≡ ms' → closed s u ms ≡ closed s u' ms'
closed_same s u u' ms ms' e1 e2 = rw (e1, e2) refl

unheard : (s : Start) (messages : List Message) (c : Bool) (e : Event) → c ≡ false → closed s true messages ≡ closed s (not c) (messages ++ recorded_if c e)
unheard s messages c e is = closed_same s _ _ _ _ (ap not (sym is)) (sym (append-nil messages) ∙ ap (λ (b : Bool). messages ++ recorded_if b e) (sym is))

heard_one : (s : Start) (messages : List Message) (c : Bool) (e : Event) (m : Message) → c ≡ true → dispensed_by e ≡ m ∷ [] → closed s false (messages ++ m ∷ []) ≡ closed s (not c) (messages ++ recorded_if c e)
heard_one s messages c e m is one = closed_same s _ _ _ _ (ap not (sym is)) (ap (λ (ms : List Message). messages ++ ms) (sym one) ∙ ap (λ (b : Bool). messages ++ recorded_if b e) (sym is))

-- the collector while it waits for the answer to its poll
abbrev waiting : Start → List Message → State
waiting s messages = after_poll (record (controller_at s) { recorded = messages })

-- a poll that ends so
abbrev poll_event : Start → List Message → List ℕ → Fault → Option (List ℕ) → Option Job → Event
poll_event s messages sent f o job = Bus sent true f o job (option_map (heard_in (waiting s messages)) (came f o))

abbrev Ends : Start → List Message → List ℕ → Fault → Option (List ℕ) → Option Job → Type 0
Ends s messages sent f o job =
    after_reply (waiting s messages) f o ≡ record (controller_at (after s (poll_event s messages sent f o job))) { recorded = messages ++ recorded_by (poll_event s messages sent f o job) }

-- the controller hears the whole reply
hears_whole : (s : Start) (messages : List Message) (sent : List ℕ) (f : Fault) (r : List ℕ) (job : Option Job) → came f (Some r) ≡ Some r → Hearing (waiting s messages) r → Ends s messages sent f (Some r) job
hears_whole s messages sent f r job whole (Takes g e k is) =
    ap (λ (o : Option (List ℕ)). without_transaction (option_map_or (after_hearing (waiting s messages)) o (waiting s messages))) whole
    ∙ ap without_transaction is
    ∙ heard_one s messages _ (poll_event s messages sent f (Some r) job) (message_of g) (ap (λ (o : Option (List ℕ)). is_message_heard (option_map (heard_in (waiting s messages)) o)) whole ∙ ap (λ (h : Heard). is_message_heard (Some h)) k) (ap (λ (o : Option Frame). option_to_list (option_map message_of o)) e)
hears_whole s messages sent f r job whole (Leaves none same) =
    ap (λ (o : Option (List ℕ)). without_transaction (option_map_or (after_hearing (waiting s messages)) o (waiting s messages))) whole
    ∙ same
    ∙ unheard s messages _ (poll_event s messages sent f (Some r) job) (ap (λ (o : Option (List ℕ)). is_message_heard (option_map (heard_in (waiting s messages)) o)) whole ∙ none)

message_not_ignored : heard.Message ≡ heard.Ignored → ⊥
message_not_ignored e = cc

-- it ignores what it hears
hears_altered : (s : Start) (messages : List Message) (sent : List ℕ) (k x : ℕ) (r : List ℕ) (job : Option Job) → heard_in (waiting s messages) (altered r k x) ≡ heard.Ignored → Hearing (waiting s messages) (altered r k x) → Ends s messages sent (fault.BadReply k x) (Some r) job
hears_altered s messages sent k x r job ignored (Takes g e is after) = absurd (message_not_ignored (sym is ∙ ignored))
hears_altered s messages sent k x r job ignored (Leaves none same) = same ∙ unheard s messages _ (poll_event s messages sent (fault.BadReply k x) (Some r) job) none

ends : (s : Start) (messages : List Message) (sent : List ℕ) (f : Fault) (o : Option (List ℕ)) (job : Option Job) → IsAlteredInVain (poll_event s messages sent f o job) → Ends s messages sent f o job
ends s messages sent f None job vain = unheard s messages false (poll_event s messages sent f None job) refl
ends s messages sent fault.None (Some r) job vain = hears_whole s messages sent fault.None r job refl (hearing_found (waiting s messages) r (frame_in r) refl)
ends s messages sent fault.LostRequest (Some r) job vain = hears_whole s messages sent fault.LostRequest r job refl (hearing_found (waiting s messages) r (frame_in r) refl)
ends s messages sent fault.LostReply (Some r) job vain = unheard s messages false (poll_event s messages sent fault.LostReply (Some r) job) refl
ends s messages sent (fault.BadRequest k x) (Some r) job vain = hears_whole s messages sent (fault.BadRequest k x) r job refl (hearing_found (waiting s messages) r (frame_in r) refl)
ends s messages sent (fault.BadReply k x) (Some r) job vain = hears_altered s messages sent k x r job vain (hearing_found (waiting s messages) (altered r k x) (frame_in (altered r k x)) refl)

-- the collector after a poll is where the bus stands
pub poll_ends : (s : Start) (messages : List Message) (old new : State) (f : Fault) (sent : List ℕ) (e : Event) → old ≡ record (controller_at s) { recorded = messages } → new ≡ after_reply (after_poll old) f (reply_in e) → e ≡ transaction s.history (after_poll old) true f sent → IsAlteredInVain e → new ≡ record (controller_at (after s e)) { recorded = messages ++ recorded_by e }
poll_ends s messages old new f sent e was is event vain =
    let event' : e ≡ transaction s.history (waiting s messages) true f sent = event ∙ ap (λ (c : State). transaction s.history (after_poll c) true f sent) was in
    is
    ∙ ap (λ (c : State). after_reply (after_poll c) f (reply_in e)) was
    ∙ subst (λ (v : Event). after_reply (waiting s messages) f (reply_in v) ≡ record (controller_at (after s v)) { recorded = messages ++ recorded_by v }) (sym event')
    (ends s messages sent f (replied s.history f sent) (option_and_then (job_of s.history) (request_heard f sent)) (subst IsAlteredInVain event' vain))

-- ---- one event more

run_more : (s : Start) (steps : List Step) (es : List Event) (step : Step) (e : Event) → IsBusRun s steps es → IsPlayed (after_all s es) step e → IsBusRun s (steps ++ step ∷ []) (es ++ e ∷ [])
run_more s [] [] step e run is = (is, tt)
run_more s [] (x ∷ es) step e run is = absurd run
run_more s (p ∷ steps) [] step e run is = absurd run
run_more s (p ∷ steps) (x ∷ es) step e run is = (run.0, run_more (after s x) steps es step e run.1 is)

all_more : (es : List Event) (e : Event) → AllByRecursion IsAlteredInVain es → IsAlteredInVain e → AllByRecursion IsAlteredInVain (es ++ e ∷ [])
all_more [] e all one = (one, tt)
all_more (x ∷ es) e all one = (all.0, all_more es e all.1 one)

recorded_more : (es : List Event) (e : Event) → recorded (es ++ e ∷ []) ≡ recorded es ++ recorded_by e
recorded_more es e = flat_map-append recorded_by es (e ∷ []) ∙ ap (λ (ms : List Message). recorded es ++ ms) (append-nil (recorded_by e))

pub trace_more : (start : Start) (steps : List Step) (old new : Played) (step : Step) (e : Event) → IsTrace start steps old → new.trace ≡ old.trace ++ e ∷ [] → IsPlayed (after_all start old.trace) step e → Stands new.responder new.collector (after (after_all start old.trace) e) (recorded old.trace ++ recorded_by e) → IsAlteredInVain e → IsTrace start (steps ++ step ∷ []) new
trace_more start steps old new step e trace pushed is stands vain = record {
  run = rw pushed (run_more start steps old.trace step e trace.run is);
  stands = rw (pushed, fold_push after start old.trace e, recorded_more old.trace e) stands;
  altered = rw pushed (all_more old.trace e trace.altered vain);
}

-- the headline, of what was played
pub headline_of_trace : HeadlineHolds → (start : Start) (steps : List Step) (s : Played) → IsLawful start.history → IsTrace start steps s → Headline start steps (unclosed (reported_in steps)) s.trace s.collector.recorded
headline_of_trace holds start steps s lawful trace =
    subst (Headline start steps (unclosed (reported_in steps)) s.trace) (sym (ap (λ (c : State). c.recorded) trace.stands.collector_is))
    (holds start steps s.trace lawful trace.run)
