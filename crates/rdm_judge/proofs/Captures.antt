-- No reply in a capture of a fixture is judged wrong.
use Rattle.std.proofs.Common.{◌≡◌, ℕ, Bool, true, false, cond, List, [], ◌∷◌, ◌++◌, Option, Some, None, ◌⊎◌, inl, inr, refl, sym, ap, subst, ◌∙◌, arith}
use Rattle.std.specs.Prelude.{fold}
use Rattle.std.specs.List.{list_all}
use Rattle.std.proofs.lemmas.List.Sums.{fold-append}
use Rattle.rdm_frame.specs.declared.uid.Uid.{Uid}
use Rattle.rdm_frame.specs.declared.frame.Frame.{Frame}
use Rattle.rdm_frame.specs.Reading.{frame_in}
use Rattle.std.specs.Str.{bytes_eq}
use Rattle.rdm_responder.specs.History.{Event, Heard, History, then_event}
use Rattle.rdm_responder.specs.Requests.{request_in, request_of}
use Rattle.rdm_responder.specs.Rules.{Account, account_after, account_before, account_of, account_with, answer_to, reply_of}
use Rattle.rdm_responder.proofs.Accounts.{account_of-then}
use Rattle.rdm_judge.specs.declared.asked.Asked.{Asked}
use Rattle.rdm_judge.specs.declared.asked.Asked.TheVariants as asking
use Rattle.rdm_judge.specs.declared.seen.Seen.{Seen}
use Rattle.rdm_judge.specs.declared.verdict.Verdict.{Verdict}
use Rattle.rdm_judge.specs.declared.verdict.Verdict.TheVariants.{Right}
use Rattle.rdm_judge.specs.declared.verdict.Rule.{Rule}
use Rattle.rdm_judge.specs.Judging.{OfOneFixture, asked_with, is_wrong, judged, on_asked, on_frames, on_mute, on_other, on_silence, verdict_beside}
use Rattle.rdm_judge.specs.Seen.{Exchange, IsCaptureOf, IsLost, NoCaptureIsWrong, after_exchange, after_frame, after_request, frame_seen, is_unseen, judged_with, nothing_seen, response_to, rule_at, rule_on, seen_in, then_events, with_rule}
use Rattle.rdm_judge.proofs.RequestFacts.{request_is}
use Rattle.rdm_judge.proofs.Fixtures.{setup_stays}
use Rattle.rdm_judge.proofs.Known.{IsKnown, lost_keeps, lost_response, missed_known, not_branch, received_known, replied_known, reply_keeps, unseen_known}
use Rattle.rdm_judge.proofs.NeverWrong.{as_own, is_own, never_wrong}

-- ---- a reply that is lost is open

no_frame : (own : Uid) (found : Option Frame) → found ≡ None → is_wrong (on_silence own found) ≡ false
no_frame own found e = rw e refl

no_second : (f : Frame) (first second : Option Frame) → second ≡ None → (is_wrong (on_frames f first second) ≡ false) × (is_wrong (on_mute (on_frames f first second)) ≡ false)
no_second f None second e = (refl, refl)
no_second f (Some g) second e = (rw e refl, rw e refl)

lost_asked : (own : Uid) (f : Frame) (asked : Asked) (given : Option (List ℕ)) (t : List ℕ) → IsLost own (Some t) → is_wrong (on_asked own f asked given t) ≡ false
lost_asked own f (asking.Branch lower upper) given t lost = rw (not_branch own (Some t) lost) refl
lost_asked own f asking.Mute (Some bytes) t lost = (no_second f (frame_in bytes) (frame_in t) lost.0).1
lost_asked own f asking.Mute None t lost = no_frame own (frame_in t) lost.0
lost_asked own f asking.Command (Some bytes) t lost = (no_second f (frame_in bytes) (frame_in t) lost.0).0
lost_asked own f asking.Command None t lost = no_frame own (frame_in t) lost.0
lost_asked own f asking.Nothing given t lost = no_frame own (frame_in t) lost.0

lost_other : (own : Uid) (found : Option Frame) (given : Option (List ℕ)) (t : List ℕ) → IsLost own (Some t) → is_wrong (on_other own found given t) ≡ false
lost_other own None given t lost = no_frame own (frame_in t) lost.0
lost_other own (Some f) given t lost = lost_asked own f (asked_with (request_of own f)) given t lost

unless_right : (same : Bool) (v : Verdict) → is_wrong v ≡ false → is_wrong (cond same Right v) ≡ false
unless_right true v e = refl
unless_right false v e = e

lost_is_open : (own : Uid) (found : Option Frame) (given reply : Option (List ℕ)) → IsLost own reply → is_wrong (verdict_beside own found given reply) ≡ false
lost_is_open own found None None lost = refl
lost_is_open own found (Some bytes) None lost = refl
lost_is_open own found None (Some t) lost = lost_other own found None t lost
lost_is_open own found (Some bytes) (Some t) lost = unless_right (bytes_eq t bytes) (on_other own found (Some bytes) t) (lost_other own found (Some bytes) t lost)

-- ---- one exchange

lost_after : (own : Uid) (s : Seen) (a : Account) (found : Option Frame) (reply : Option (List ℕ)) → IsLost own reply → IsKnown s a → IsKnown (after_frame own s found reply) a
lost_after own s a None reply lost known = known
lost_after own s a (Some f) reply lost known =
    subst (λ (response : Option Frame). IsKnown (after_request s f (asked_with (request_of own f)) response) a) (sym (lost_response own f reply lost)) (missed_known s a f (asked_with (request_of own f)) known)

unheard_after : (own : Uid) (s : Seen) (a : Account) (found : Option Frame) (reply : Option (List ℕ)) → IsLost own reply → IsKnown s a → IsKnown (after_frame own s found reply) (account_with a (request_in own found))
unheard_after own s a None reply lost known = known
unheard_after own s a (Some f) reply lost known =
    subst (λ (response : Option Frame). IsKnown (after_request s f (asked_with (request_of own f)) response) (account_with a (request_of own f))) (sym (lost_response own f reply lost))
    (received_known own a.parameters.profile s a f (request_of own f) (request_is own f) known)

replied_after : (own : Uid) (s : Seen) (a : Account) (found : Option Frame) (reply : Option (List ℕ)) → reply ≡ as_own own a.parameters.profile a (request_in own found) → IsKnown s a → IsKnown (after_frame own s found reply) (account_with a (request_in own found))
replied_after own s a None reply e known = known
replied_after own s a (Some f) reply e known =
    subst (λ (x : Option (List ℕ)). IsKnown (after_request s f (asked_with (request_of own f)) (response_to own f (frame_seen x))) (account_with a (request_of own f))) (sym e)
    (replied_known own a.parameters.profile s a f (request_of own f) (request_is own f) known)

lost_rule : (own : Uid) (s : Seen) (found : Option Frame) (reply : Option (List ℕ)) → IsLost own reply → rule_at s own found reply ≡ None
lost_rule own s None reply lost = refl
lost_rule own s (Some f) reply lost = lost_keeps s own f (asked_with (request_of own f)) reply lost

reply_rule : (own : Uid) (s : Seen) (a : Account) (found : Option Frame) (reply : Option (List ℕ)) → reply ≡ as_own own a.parameters.profile a (request_in own found) → IsKnown s a → rule_at s own found reply ≡ None
reply_rule own s a None reply e known = refl
reply_rule own s a (Some f) reply e known =
    subst (λ (x : Option (List ℕ)). rule_on s own f (asked_with (request_of own f)) x ≡ None) (sym e) (reply_keeps own a.parameters.profile s a f (request_of own f) (request_is own f) known)

-- ---- histories

uid_is : (k : History) → (account_of k).setup.uid ≡ k.setup.uid
uid_is k = ap (λ s. s.uid) (setup_stays k)

-- the answer to a request, by the UID of the setup
answer_is : (k : History) (bytes : List ℕ) → reply_of k bytes ≡ as_own k.setup.uid (account_of k).parameters.profile (account_of k) (request_in k.setup.uid (frame_in bytes))
answer_is k bytes =
    ap (λ (u : Uid). answer_to (account_of k) (request_in u (frame_in bytes))) (uid_is k)
    ∙ is_own k.setup.uid (account_of k).parameters.profile (account_of k) (request_in k.setup.uid (frame_in bytes)) (uid_is k) refl

heard_is : (k : History) (bytes : List ℕ) → account_of (then_event k (Heard bytes)) ≡ account_with (account_of k) (request_in k.setup.uid (frame_in bytes))
heard_is k bytes = account_of-then k (Heard bytes) ∙ ap (λ (u : Uid). account_with (account_of k) (request_in u (frame_in bytes))) (uid_is k)

events_are : (k : History) (events : List Event) → account_of (then_events k events) ≡ fold account_after (account_of k) events
unfolding account_of
events_are k events = fold-append account_after (account_before k.setup) k.events events

abbrev Known : Seen → History → Type 0
Known s k = IsKnown s (account_of k)

known_then : (s : Seen) (k : History) (events : List Event) → list_all is_unseen events ≡ true → Known s k → Known s (then_events k events)
known_then s k events unseen known = subst (λ (a : Account). IsKnown s a) (sym (events_are k events)) (unseen_known events s (account_of k) unseen known)

known_missed : (s : Seen) (k : History) (x : Exchange) → IsLost k.setup.uid x.reply → Known s k → Known (after_exchange k.setup.uid s x) k
known_missed s k x lost known = lost_after k.setup.uid s (account_of k) (frame_in x.request) x.reply lost known

known_heard : (s : Seen) (k : History) (x : Exchange) → (x.reply ≡ reply_of k x.request) ⊎ IsLost k.setup.uid x.reply → Known s k → Known (after_exchange k.setup.uid s x) (then_event k (Heard x.request))
known_heard s k x (inl is) known =
    subst (λ (a : Account). IsKnown (after_exchange k.setup.uid s x) a) (sym (heard_is k x.request)) (replied_after k.setup.uid s (account_of k) (frame_in x.request) x.reply (is ∙ answer_is k x.request) known)
known_heard s k x (inr lost) known =
    subst (λ (a : Account). IsKnown (after_exchange k.setup.uid s x) a) (sym (heard_is k x.request)) (unheard_after k.setup.uid s (account_of k) (frame_in x.request) x.reply lost known)

-- ---- verdicts

kept : (verdict : Verdict) (rule : Option Rule) → rule ≡ None → is_wrong verdict ≡ false → is_wrong (with_rule verdict rule) ≡ false
kept verdict rule e right = rw e right

lost_verdict : (s : Seen) (h : History) (x : Exchange) → IsLost h.setup.uid x.reply → is_wrong (judged_with s h x) ≡ false
unfolding judged_with judged
lost_verdict s h x lost =
    kept (judged h x.request x.reply) (rule_at s h.setup.uid (frame_in x.request) x.reply) (lost_rule h.setup.uid s (frame_in x.request) x.reply lost)
    (lost_is_open h.setup.uid (frame_in x.request) (reply_of h x.request) x.reply lost)

reply_verdict : (s : Seen) (h k : History) (x : Exchange) → OfOneFixture h k → x.reply ≡ reply_of k x.request → Known s k → is_wrong (judged_with s h x) ≡ false
unfolding judged_with
reply_verdict s h k x one is known =
    kept (judged h x.request x.reply) (rule_at s h.setup.uid (frame_in x.request) x.reply)
    (subst (λ (u : Uid). rule_at s u (frame_in x.request) x.reply ≡ None) one.uid (reply_rule k.setup.uid s (account_of k) (frame_in x.request) x.reply (is ∙ answer_is k x.request) known))
    (subst (λ (reply : Option (List ℕ)). is_wrong (judged h x.request reply) ≡ false) (sym is) (never_wrong h k x.request one))

one_later : (h k : History) (events : List Event) → OfOneFixture h k → OfOneFixture h (then_events k events)
one_later h k events one = record { uid = one.uid; profile = one.profile }

one_heard : (h k : History) (event : Event) → OfOneFixture h k → OfOneFixture h (then_event k event)
one_heard h k event one = record { uid = one.uid; profile = one.profile }

lost_here : (h k : History) (reply : Option (List ℕ)) → OfOneFixture h k → IsLost k.setup.uid reply → IsLost h.setup.uid reply
lost_here h k reply one lost = subst (λ (u : Uid). IsLost u reply) one.uid lost

at_exchange : (s : Seen) (h k : History) (x : Exchange) → OfOneFixture h k → (x.reply ≡ reply_of k x.request) ⊎ IsLost k.setup.uid x.reply → Known s k → is_wrong (judged_with s h x) ≡ false
at_exchange s h k x one (inl is) known = reply_verdict s h k x one is known
at_exchange s h k x one (inr lost) known = lost_verdict s h x (lost_here h k x.reply one lost)

-- ---- captures

along : (before : List Exchange) (s : Seen) (h k : History) (x : Exchange) → OfOneFixture h k → Known s k → IsCaptureOf k (before ++ x ∷ []) → is_wrong (judged_with (fold (after_exchange k.setup.uid) s before) h x) ≡ false
along [] s h k x one known (events, unseen, inl missed) = lost_verdict s h x (lost_here h k x.reply one missed.0)
along [] s h k x one known (events, unseen, inr heard) =
    at_exchange s h (then_events k events) x (one_later h k events one) heard.0 (known_then s k events unseen known)
along (y ∷ ys) s h k x one known (events, unseen, inl missed) =
    let now = known_then s k events unseen known in
    along ys (after_exchange k.setup.uid s y) h (then_events k events) x (one_later h k events one) (known_missed s (then_events k events) y missed.0 now) missed.1
along (y ∷ ys) s h k x one known (events, unseen, inr heard) =
    let now = known_then s k events unseen known in
    along ys (after_exchange k.setup.uid s y) h (then_event (then_events k events) (Heard y.request)) x (one_heard h (then_events k events) (Heard y.request) (one_later h k events one)) (known_heard s (then_events k events) y heard.0 now) heard.1

false_is_true : false ≡ true → ⊥
false_is_true e = cc

nothing_known : (k : History) → Known nothing_seen k
nothing_known k = record {
  muted = λ (m : false ≡ true). absurd (false_is_true m);
  last = λ m e. absurd cc;
  waiting = omega arith;
  bound = omega arith;
}

pub no_capture_is_wrong : NoCaptureIsWrong
no_capture_is_wrong h k before x one capture =
    subst (λ (u : Uid). is_wrong (judged_with (seen_in u before) h x) ≡ false) one.uid (along before nothing_seen h k x one (nothing_known k) capture)
