-- What a capture shows of a fixture is so.
use Rattle.std.proofs.Common.{◌≡◌, ℕ, ◌-◌, ◌≤◌, ◌==◌, ◌&&◌, min, Bool, true, false, not, cond, List, [], ◌∷◌, ◌++◌, length, Option, Some, None, refl, sym, ap, subst, ◌∙◌, arith, length-append}
use Rattle.std.specs.Prelude.{fold, nat_le}
use Rattle.std.specs.List.{list_all}
use Rattle.std.specs.Str.{bytes_eq}
use Rattle.std.proofs.lemmas.Bool.{eq-eqb, le-leb}
use Rattle.std.proofs.lemmas.Slice.Eq.{bytes_eq-Decides}
use Rattle.std.proofs.lemmas.List.{get_or_push}
use Rattle.std.proofs.Math.Seq.{take-append_seam}
use Rattle.rdm_frame.specs.declared.uid.Uid.{Uid}
use Rattle.rdm_frame.specs.declared.frame.Frame.{Frame}
use Rattle.rdm_frame.specs.declared.message.Message.{Message}
use Rattle.rdm_frame.specs.Addressing.{is_broadcast, same_uid}
use Rattle.rdm_frame.specs.Discovery.{branch_reply}
use Rattle.rdm_frame.specs.FrameText.{frame_text}
use Rattle.rdm_frame.specs.Reading.{frame_in, frame_of}
use Rattle.rdm_profile.specs.declared.profile.Profile.{Profile}
use Rattle.rdm_commands.specs.declared.verdict.Verdict.{Verdict as Answer}
use Rattle.rdm_params.specs.Commands.Commands.{answer_to_set, got}
use Rattle.rdm_outbox.specs.Account as outbox
use Rattle.rdm_outbox.specs.Jobs.{waiting_of}
use Rattle.rdm_outbox.specs.Messages.{dispensed, last_of, status_dispensed}
use Rattle.rdm_responder.specs.History.{Event}
use Rattle.rdm_responder.specs.Requests.{Request, Ignored, Branch, Muting, Get, Set}
use Rattle.rdm_responder.specs.Rules.{Account, Response, account_after, account_with, ack_message, answer_with, is_between, is_muted, message_count, outbox_after, reply_with, response_of}
use Rattle.rdm_judge.specs.declared.asked.Asked.{Asked}
use Rattle.rdm_judge.specs.declared.asked.Asked.TheVariants as asking
use Rattle.rdm_judge.specs.declared.seen.Seen.{Seen}
use Rattle.rdm_judge.specs.declared.verdict.Rule.TheVariants as rules
use Rattle.rdm_judge.specs.Judging.{asked_with, fetches, rule_unless}
use Rattle.rdm_judge.specs.Seen.{IsLost, after_request, asks_again, fewest, frame_seen, is_another, is_branch_reply, is_unseen, last_after, message_of, muted_after, polls, response_to, rule_of, rule_on, same_message}
use Rattle.rdm_judge.proofs.RequestFacts.{Facts}
use Rattle.rdm_judge.proofs.Messages.{Later, dispensed_is_last, fewer_by_one, gives_none, no_fewer, queue_not, same_last, status_is_last, unseen_later}
use Rattle.rdm_judge.proofs.NeverWrong.{as_own}
use Rattle.rdm_judge.proofs.Polls.{Again, Given, Gives, NoneAgain, Queued, QueuedAgain, Refused, Shown, ShownAgain, get_gives, set_gives}
use Rattle.rdm_judge.proofs.Responses.{frame_for, read_of, seen, word}

-- a message as it is read from a response
abbrev as_read : Message → Message
as_read m = record { class = m.class; pid = word m.pid; sub = word m.sub; body = m.body }

abbrev IsLast : Option Message → outbox.Account → Type 0
IsLast last b = (m : Message) → last ≡ Some m → m ≡ as_read (last_of b)

-- What is known of a fixture is so.
pub record IsKnown (s : Seen) (a : Account) : Type 0 where
  pub muted : s.muted ≡ true → is_muted a.mutings ≡ true
  pub last : (m : Message) → s.last ≡ Some m → m ≡ as_read (last_of a.outbox)
  pub waiting : s.waiting ≤ length (waiting_of a.outbox)
  pub bound : s.waiting ≤ 255

-- ---- events that no capture shows

later_known : (s : Seen) (a c : Account) → IsKnown s a → Later a.outbox c.outbox → c.mutings ≡ a.mutings → IsKnown s c
later_known s a c known later mutings = record {
  muted = λ (m : s.muted ≡ true). ap is_muted mutings ∙ known.muted m;
  last = λ (m : Message) (e : s.last ≡ Some m). known.last m e ∙ ap as_read (sym (same_last a.outbox c.outbox later));
  waiting = let most = no_fewer a.outbox c.outbox later in omega (arith, most);
  bound = known.bound;
}

first_true : (a b : Bool) → (a && b) ≡ true → a ≡ true
first_true true b e = refl
first_true false b e = absurd cc

second_true : (a b : Bool) → (a && b) ≡ true → b ≡ true
second_true true b e = e
second_true false b e = absurd cc

pub unseen_known : (es : List Event) (s : Seen) (a : Account) → list_all is_unseen es ≡ true → IsKnown s a → IsKnown s (fold account_after a es)
unseen_known [] s a unseen known = known
unseen_known (e ∷ es) s a unseen known =
    let one = unseen_later a e (first_true (is_unseen e) (list_all is_unseen es) unseen) in
    unseen_known es s (account_after a e) (second_true (is_unseen e) (list_all is_unseen es) unseen) (later_known s a (account_after a e) known one.0 one.1)

-- ---- a request that the fixture missed

kept_if : (fetch again : Bool) (last : Option Message) (m : Message) → cond fetch (cond again last None) last ≡ Some m → last ≡ Some m
kept_if true true last m e = e
kept_if true false last m e = absurd cc
kept_if false again last m e = e

fewest_if : (next : Bool) (n : ℕ) → cond next (n - 1) n ≤ n
fewest_if true n = omega arith
fewest_if false n = omega arith

fewest_most : (n : ℕ) (f : Frame) → fewest n f ≤ n
fewest_most n f = fewest_if (polls f && not (asks_again f)) n

pub missed_known : (s : Seen) (a : Account) (f : Frame) (asked : Asked) → IsKnown s a → IsKnown (after_request s f asked None) a
missed_known s a f (asking.Branch lower upper) known = known
missed_known s a f asking.Mute known = record {
  muted = λ (m : (s.muted && (f.pid == 0x0002)) ≡ true). known.muted (first_true s.muted (f.pid == 0x0002) m);
  last = known.last;
  waiting = known.waiting;
  bound = known.bound;
}
missed_known s a f asking.Command known = record {
  muted = known.muted;
  last = λ (m : Message) (e : last_after s.last f None ≡ Some m). known.last m (kept_if (fetches f) (asks_again f) s.last m e);
  waiting = let most = fewest_most s.waiting f in let first = known.waiting in omega (arith, most, first);
  bound = let most = fewest_most s.waiting f in let first = known.bound in omega (arith, most, first);
}
missed_known s a f asking.Nothing known = known

-- ---- a command that it received

-- nothing comes of what asks for the last message again
again_stays : (b : outbox.Account) (v : Answer) → Again v → outbox_after b v ≡ b
again_stays b v (QueuedAgain e) = ap (outbox_after b) e
again_stays b v (ShownAgain e) = ap (outbox_after b) e
again_stays b v (NoneAgain nack e) = ap (outbox_after b) e

silent_at : (f : Frame) (b : outbox.Account) (v : Answer) (last : Option Message) (fetch again : Bool) → fetches f ≡ fetch → asks_again f ≡ again → Gives f v → IsLast last b → IsLast (cond fetch (cond again last None) last) (outbox_after b v)
silent_at f b v last true true g a gives known m e =
    subst (λ (c : outbox.Account). m ≡ as_read (last_of c)) (sym (again_stays b v (gives.again a))) (known m e)
silent_at f b v last true false g a gives known m e = absurd cc
silent_at f b v last false again g a gives known m e =
    known m e ∙ ap as_read (sym (same_last b (outbox_after b v) (gives_none b v (gives.none g))))

silent_last : (f : Frame) (b : outbox.Account) (v : Answer) (last : Option Message) → Gives f v → IsLast last b → IsLast (last_after last f None) (outbox_after b v)
silent_last f b v last gives known = silent_at f b v last (fetches f) (asks_again f) refl refl gives known

waits_at : (f : Frame) (b : outbox.Account) (v : Answer) (n : ℕ) (poll again : Bool) → polls f ≡ poll → asks_again f ≡ again → Gives f v → n ≤ length (waiting_of b) → cond (poll && not again) (n - 1) n ≤ length (waiting_of (outbox_after b v))
waits_at f b v n true true p a gives known =
    subst (λ (c : outbox.Account). n ≤ length (waiting_of c)) (sym (again_stays b v (gives.again a))) known
waits_at f b v n true false p a gives known = let fewer = fewer_by_one b v in omega (arith, fewer, known)
waits_at f b v n false again p a gives known = let most = queue_not b v (gives.not_polled p) in omega (arith, most, known)

waits : (f : Frame) (b : outbox.Account) (v : Answer) (n : ℕ) → Gives f v → n ≤ length (waiting_of b) → fewest n f ≤ length (waiting_of (outbox_after b v))
waits f b v n gives known = waits_at f b v n (polls f) (asks_again f) refl refl gives known

-- the account after a command with this verdict
record After (a c : Account) (v : Answer) : Type 0 where
  mutings : c.mutings ≡ a.mutings
  outbox_is : c.outbox ≡ outbox_after a.outbox v

silent_known : (s : Seen) (a c : Account) (f : Frame) (v : Answer) → Gives f v → After a c v → IsKnown s a → IsKnown (after_request s f asking.Command None) c
silent_known s a c f v gives after known = record {
  muted = λ (m : s.muted ≡ true). ap is_muted after.mutings ∙ known.muted m;
  last = subst (λ (b : outbox.Account). IsLast (last_after s.last f None) b) (sym after.outbox_is) (silent_last f a.outbox v s.last gives known.last);
  waiting = subst (λ (b : outbox.Account). fewest s.waiting f ≤ length (waiting_of b)) (sym after.outbox_is) (waits f a.outbox v s.waiting gives known.waiting);
  bound = let most = fewest_most s.waiting f in let first = known.bound in omega (arith, most, first);
}

-- the response to it, as it is read
abbrev response_at : Uid → Profile → outbox.Account → Frame → Answer → Frame
response_at own p b f v = seen (frame_for own f (message_count (outbox_after b v)) (response_of p b f v))

carried : (own : Uid) (f : Frame) (count : ℕ) (m : Message) → message_of (seen (frame_for own f count (ack_message m))) ≡ as_read m
carried own f count m = ap (λ (body : List ℕ). record { class = m.class; pid = word m.pid; sub = word m.sub; body = body }) (take-append_seam m.body _)

some_is : (x y : Message) → Some x ≡ Some y → x ≡ y
some_is x y e = cc

true_is_false : true ≡ false → ⊥
true_is_false e = cc

-- the message of a response that is an ACK
given_last : (own : Uid) (p : Profile) (b : outbox.Account) (f : Frame) (v : Answer) → Given v → ((response_at own p b f v).port == 0) ≡ true → message_of (response_at own p b f v) ≡ as_read (last_of (outbox_after b v))
given_last own p b f v (Queued ask e) ack =
    subst (λ (w : Answer). message_of (response_at own p b f w) ≡ as_read (last_of (outbox_after b w))) (sym e) (carried own f _ (dispensed b ask) ∙ ap as_read (sym (dispensed_is_last b ask)))
given_last own p b f v (Shown ask e) ack =
    subst (λ (w : Answer). message_of (response_at own p b f w) ≡ as_read (last_of (outbox_after b w))) (sym e) (carried own f _ (status_dispensed b ask) ∙ ap as_read (sym (status_is_last b ask)))
given_last own p b f v (Refused nack e) ack = absurd (true_is_false (sym ack ∙ ap (λ (w : Answer). (response_at own p b f w).port == 0) e))

heard_at : (own : Uid) (p : Profile) (f : Frame) (b : outbox.Account) (v : Answer) (last : Option Message) (fetch ack : Bool) → fetches f ≡ fetch → ((response_at own p b f v).port == 0) ≡ ack → Gives f v → IsLast last b → IsLast (cond fetch (cond ack (Some (message_of (response_at own p b f v))) (cond (asks_again f) last None)) last) (outbox_after b v)
heard_at own p f b v last true true e ack gives known m is = sym (some_is _ _ is) ∙ given_last own p b f v (gives.fetched e) ack
heard_at own p f b v last true false e ack gives known m is = silent_at f b v last true (asks_again f) e refl gives known m is
heard_at own p f b v last false ack e a gives known m is = silent_at f b v last false (asks_again f) e refl gives known m is

heard_known : (own : Uid) (p : Profile) (s : Seen) (a c : Account) (f : Frame) (v : Answer) → Gives f v → After a c v → IsKnown s a → IsKnown (after_request s f asking.Command (Some (response_at own p a.outbox f v))) c
heard_known own p s a c f v gives after known = record {
  muted = λ (m : s.muted ≡ true). ap is_muted after.mutings ∙ known.muted m;
  last = subst (λ (b : outbox.Account). IsLast (last_after s.last f (Some (response_at own p a.outbox f v))) b) (sym after.outbox_is) (heard_at own p f a.outbox v s.last (fetches f) ((response_at own p a.outbox f v).port == 0) refl refl gives known.last);
  waiting = subst (λ (b : outbox.Account). message_count (outbox_after a.outbox v) ≤ length (waiting_of b)) (sym after.outbox_is) (omega arith);
  bound = omega arith;
}

-- ---- mutes

muted_push : (ms : List Bool) (m : Bool) → is_muted (ms ++ m ∷ []) ≡ m
muted_push ms m = get_or_push ms m false (length (ms ++ m ∷ []) - 1) (omega (arith, length-append ms (m ∷ [])))

is_mute : (muted : Bool) (f : Frame) (response : Option Frame) → muted_after muted f response ≡ true → (f.pid == 0x0002) ≡ true
is_mute muted f None e = second_true muted (f.pid == 0x0002) e
is_mute muted f (Some r) e = e

mute_known : (s : Seen) (a c : Account) (f : Frame) (m : Bool) (response : Option Frame) → (f.pid == 0x0002) ≡ m → c.mutings ≡ a.mutings ++ m ∷ [] → c.outbox ≡ a.outbox → IsKnown s a → IsKnown (after_request s f asking.Mute response) c
mute_known s a c f m response pid mutings same known = record {
  muted = λ (e : muted_after s.muted f response ≡ true). ap is_muted mutings ∙ muted_push a.mutings m ∙ sym pid ∙ is_mute s.muted f response e;
  last = subst (λ (b : outbox.Account). IsLast s.last b) (sym same) known.last;
  waiting = subst (λ (b : outbox.Account). s.waiting ≤ length (waiting_of b)) (sym same) known.waiting;
  bound = known.bound;
}

-- ---- what is seen of an answer

at_test : (P : Option Frame → Type 0) (test : Bool) (g : Frame) → P None → P (Some g) → P (cond test (Some g) None)
at_test P true g none some = some
at_test P false g none some = none

text_seen : (P : Option Frame → Type 0) (x : Frame) → P None → P (Some (seen x)) → P (frame_in (frame_text x))
unfolding frame_in
text_seen P x none some =
    at_test P (bytes_eq (frame_text x) (frame_text (frame_of (frame_text x)))) (frame_of (frame_text x)) none (subst (λ (g : Frame). P (Some g)) (sym (read_of x)) some)

at_broadcast : (P : Option (List ℕ) → Type 0) (all : Bool) (t : List ℕ) → P None → P (Some t) → P (cond all None (Some t))
at_broadcast P true t none some = none
at_broadcast P false t none some = some

-- a response, or that there is none
answer_seen : (P : Option Frame → Type 0) (own : Uid) (f : Frame) (count : ℕ) (r : Response) → P None → P (Some (seen (frame_for own f count r))) → P (response_to own f (frame_seen (answer_with own f count r)))
unfolding answer_with
answer_seen P own f count r none some =
    let x = frame_for own f count r in
    at_broadcast (λ (reply : Option (List ℕ)). P (response_to own f (frame_seen reply))) (is_broadcast f.dst) (frame_text x) none
    (text_seen (λ (found : Option Frame). P (response_to own f found)) x none (at_test P (same_uid (seen x).src own && ((seen x).tn == f.tn)) (seen x) none some))

-- ---- a request that it received

pub received_known : (own : Uid) (p : Profile) (s : Seen) (a : Account) (f : Frame) (r : Request) → Facts f r → IsKnown s a → IsKnown (after_request s f (asked_with r) None) (account_with a r)
received_known own p s a f Ignored facts known = known
received_known own p s a f (Branch lower upper) facts known = known
received_known own p s a f (Muting m g) facts known = mute_known s a (account_with a (Muting m g)) f m None facts.1 refl refl known
received_known own p s a f (Get g) facts known =
    subst (λ (x : Frame). IsKnown (after_request s f asking.Command None) (account_with a (Get x))) (sym facts.0)
    (silent_known s a (account_with a (Get f)) f (got a.parameters f.sub f.pid f.body) (get_gives a.parameters f facts.1) (record { mutings = refl; outbox_is = refl }) known)
received_known own p s a f (Set g) facts known =
    subst (λ (x : Frame). IsKnown (after_request s f asking.Command None) (account_with a (Set x))) (sym facts.0)
    (silent_known s a (account_with a (Set f)) f (answer_to_set a.parameters f.sub f.pid f.body) (set_gives a.parameters f facts.1) (record { mutings = refl; outbox_is = refl }) known)

command_known : (own : Uid) (p : Profile) (s : Seen) (a c : Account) (f : Frame) (v : Answer) → Gives f v → After a c v → IsKnown s a → IsKnown (after_request s f asking.Command (response_to own f (frame_seen (reply_with own p a.outbox f v)))) c
command_known own p s a c f v gives after known =
    answer_seen (λ (response : Option Frame). IsKnown (after_request s f asking.Command response) c) own f (message_count (outbox_after a.outbox v)) (response_of p a.outbox f v) (silent_known s a c f v gives after known) (heard_known own p s a c f v gives after known)

pub replied_known : (own : Uid) (p : Profile) (s : Seen) (a : Account) (f : Frame) (r : Request) → Facts f r → IsKnown s a → IsKnown (after_request s f (asked_with r) (response_to own f (frame_seen (as_own own p a r)))) (account_with a r)
replied_known own p s a f Ignored facts known = known
replied_known own p s a f (Branch lower upper) facts known = known
replied_known own p s a f (Muting m g) facts known = mute_known s a (account_with a (Muting m g)) f m (response_to own f (frame_seen (as_own own p a (Muting m g)))) facts.1 refl refl known
replied_known own p s a f (Get g) facts known =
    subst (λ (x : Frame). IsKnown (after_request s f asking.Command (response_to own f (frame_seen (as_own own p a (Get x))))) (account_with a (Get x))) (sym facts.0)
    (command_known own p s a (account_with a (Get f)) f (got a.parameters f.sub f.pid f.body) (get_gives a.parameters f facts.1) (record { mutings = refl; outbox_is = refl }) known)
replied_known own p s a f (Set g) facts known =
    subst (λ (x : Frame). IsKnown (after_request s f asking.Command (response_to own f (frame_seen (as_own own p a (Set x))))) (account_with a (Set x))) (sym facts.0)
    (command_known own p s a (account_with a (Set f)) f (answer_to_set a.parameters f.sub f.pid f.body) (set_gives a.parameters f facts.1) (record { mutings = refl; outbox_is = refl }) known)

-- ---- no rule is broken by what is known

pub lost_response : (own : Uid) (f : Frame) (reply : Option (List ℕ)) → IsLost own reply → response_to own f (frame_seen reply) ≡ None
lost_response own f None lost = refl
lost_response own f (Some t) lost = ap (response_to own f) lost.0

differs : (t u : List ℕ) (same : Bool) → bytes_eq t u ≡ same → (t ≡ u → ⊥) → same ≡ false
differs t u true e differ = absurd (differ ((bytes_eq-Decides t u).0 e))
differs t u false e differ = refl

pub not_branch : (own : Uid) (reply : Option (List ℕ)) → IsLost own reply → is_branch_reply own reply ≡ false
not_branch own None lost = refl
not_branch own (Some t) lost = differs t (branch_reply own) (bytes_eq t (branch_reply own)) refl lost.1

no_branch_rule : (muted branch : Bool) → (muted && branch) ≡ false → rule_unless (not (muted && branch)) rules.Muted ≡ None
no_branch_rule muted branch e = rw e refl

and_false : (a b : Bool) → b ≡ false → (a && b) ≡ false
and_false true b e = e
and_false false b e = refl

pub lost_keeps : (s : Seen) (own : Uid) (f : Frame) (asked : Asked) (reply : Option (List ℕ)) → IsLost own reply → rule_on s own f asked reply ≡ None
lost_keeps s own f (asking.Branch lower upper) reply lost = no_branch_rule s.muted (is_branch_reply own reply) (and_false s.muted (is_branch_reply own reply) (not_branch own reply lost))
lost_keeps s own f asking.Mute reply lost = refl
lost_keeps s own f asking.Command reply lost = ap (rule_of s f) (lost_response own f reply lost)
lost_keeps s own f asking.Nothing reply lost = refl

branch_at : (own : Uid) (known muted within : Bool) → (known ≡ true → muted ≡ true) → rule_unless (not (known && is_branch_reply own (cond (not muted && within) (Some (branch_reply own)) None))) rules.Muted ≡ None
branch_at own false muted within is = refl
branch_at own true true within is = refl
branch_at own true false within is = absurd (true_is_false (sym (is refl)))

same_as_itself : (m : Message) → same_message m m ≡ true
same_as_itself m = rw (eq-eqb m.class m.class refl, eq-eqb m.pid m.pid refl, eq-eqb m.sub m.sub refl, (bytes_eq-Decides m.body m.body).1 refl) refl

not_another : (port : Bool) (m n : Message) → m ≡ n → (port && not (same_message m n)) ≡ false
not_another port m n e = subst (λ (x : Message). (port && not (same_message m x)) ≡ false) e (rw (same_as_itself m) (and_false port false refl))

same_again : (own : Uid) (p : Profile) (b : outbox.Account) (f : Frame) (v : Answer) (m : Message) → m ≡ as_read (last_of b) → as_read (last_of b) ≡ message_of (response_at own p b f v) → is_another (Some m) (response_at own p b f v) ≡ false
same_again own p b f v m known same = not_another ((response_at own p b f v).port == 0) m (message_of (response_at own p b f v)) (known ∙ same)

again_is : (own : Uid) (p : Profile) (b : outbox.Account) (f : Frame) (v : Answer) (last : Option Message) → Again v → IsLast last b → is_another last (response_at own p b f v) ≡ false
again_is own p b f v None again known = refl
again_is own p b f v (Some m) (QueuedAgain e) known =
    same_again own p b f v m (known m refl) (subst (λ (w : Answer). as_read (last_of b) ≡ message_of (response_at own p b f w)) (sym e) (sym (carried own f _ (last_of b))))
again_is own p b f v (Some m) (ShownAgain e) known =
    same_again own p b f v m (known m refl) (subst (λ (w : Answer). as_read (last_of b) ≡ message_of (response_at own p b f w)) (sym e) (sym (carried own f _ (last_of b))))
again_is own p b f v (Some m) (NoneAgain nack e) known = subst (λ (w : Answer). is_another (Some m) (response_at own p b f w) ≡ false) (sym e) refl

again_at : (own : Uid) (p : Profile) (b : outbox.Account) (f : Frame) (v : Answer) (last : Option Message) (again : Bool) → asks_again f ≡ again → Gives f v → IsLast last b → (again && is_another last (response_at own p b f v)) ≡ false
again_at own p b f v last true e gives known = again_is own p b f v last (gives.again e) known
again_at own p b f v last false e gives known = refl

no_rule : (another counted : Bool) → another ≡ false → counted ≡ true → cond another (Some rules.LastMessage) (rule_unless counted rules.Count) ≡ None
no_rule another counted e c = rw (e, c) refl

counted : (n m : ℕ) → n ≤ m → n ≤ 255 → nat_le n (min 255 m) ≡ true
counted n m most bound = le-leb n (min 255 m) (omega arith)

response_keeps : (own : Uid) (p : Profile) (s : Seen) (a : Account) (f : Frame) (v : Answer) → Gives f v → IsKnown s a → rule_of s f (Some (response_at own p a.outbox f v)) ≡ None
response_keeps own p s a f v gives known =
    let most = fewest_most s.waiting f in let bound = known.bound in
    let low : fewest s.waiting f ≤ 255 = omega (arith, most, bound) in
    no_rule (asks_again f && is_another s.last (response_at own p a.outbox f v)) (nat_le (fewest s.waiting f) (message_count (outbox_after a.outbox v)))
    (again_at own p a.outbox f v s.last (asks_again f) refl gives known.last)
    (counted (fewest s.waiting f) (length (waiting_of (outbox_after a.outbox v))) (waits f a.outbox v s.waiting gives known.waiting) low)

command_keeps : (own : Uid) (p : Profile) (s : Seen) (a : Account) (f : Frame) (v : Answer) → Gives f v → IsKnown s a → rule_of s f (response_to own f (frame_seen (reply_with own p a.outbox f v))) ≡ None
command_keeps own p s a f v gives known =
    answer_seen (λ (response : Option Frame). rule_of s f response ≡ None) own f (message_count (outbox_after a.outbox v)) (response_of p a.outbox f v) refl (response_keeps own p s a f v gives known)

pub reply_keeps : (own : Uid) (p : Profile) (s : Seen) (a : Account) (f : Frame) (r : Request) → Facts f r → IsKnown s a → rule_on s own f (asked_with r) (as_own own p a r) ≡ None
reply_keeps own p s a f Ignored facts known = refl
reply_keeps own p s a f (Branch lower upper) facts known = branch_at own s.muted (is_muted a.mutings) (is_between lower own upper) known.muted
reply_keeps own p s a f (Muting m g) facts known = refl
reply_keeps own p s a f (Get g) facts known =
    subst (λ (x : Frame). rule_on s own f asking.Command (as_own own p a (Get x)) ≡ None) (sym facts.0)
    (command_keeps own p s a f (got a.parameters f.sub f.pid f.body) (get_gives a.parameters f facts.1) known)
reply_keeps own p s a f (Set g) facts known =
    subst (λ (x : Frame). rule_on s own f asking.Command (as_own own p a (Set x)) ≡ None) (sym facts.0)
    (command_keeps own p s a f (answer_to_set a.parameters f.sub f.pid f.body) (set_gives a.parameters f facts.1) known)
