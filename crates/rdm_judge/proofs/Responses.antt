-- Two responses to one request, each of devices that answer alike: neither breaks a rule beside the other.
use Rattle.std.proofs.Common.{◌≡◌, ℕ, Bool, true, false, ◌==◌, ◌&&◌, ◌||◌, ◌+◌, ◌%◌, List, ◌++◌, take, length, sum, None, ◌⊎◌, inl, inr, refl, sym, ap, subst, ◌∙◌}
use Rattle.std.proofs.lemmas.Bool.{eq-eqb}
use Rattle.std.specs.Int.{w16, w32, to_be_bytes, from_be_bytes}
use Rattle.rdm_frame.specs.declared.uid.Uid.{Uid}
use Rattle.rdm_frame.specs.declared.frame.Frame.{Frame}
use Rattle.rdm_frame.specs.declared.nack.Nack.{Nack}
use Rattle.rdm_frame.specs.declared.nack.Nack.TheVariants.{UnknownPid, FormatError, UnsupportedCommandClass, DataOutOfRange, WriteProtect, BufferFull, SubDeviceOutOfRange}
use Rattle.rdm_frame.specs.Addressing.{same_uid}
use Rattle.rdm_frame.specs.FrameText.{frame_text, head_slots}
use Rattle.rdm_frame.specs.Nacks.{nack_code}
use Rattle.rdm_frame.specs.Reading.{frame_of}
use Rattle.rdm_profile.specs.declared.profile.Profile.{Profile}
use Rattle.rdm_commands.specs.declared.jobs.work.Work.{Work}
use Rattle.rdm_commands.specs.declared.verdict.Verdict.{Verdict}
use Rattle.rdm_commands.specs.declared.verdict.Verdict.TheVariants.{Reply, Start, Queue, Status, Clear, Refuse}
use Rattle.rdm_params.specs.Jobs.Work.{estimate_of}
use Rattle.rdm_outbox.specs.Account as outbox
use Rattle.rdm_outbox.specs.Jobs.{has_room}
use Rattle.rdm_responder.specs.Rules.{Response, response_of}
use Rattle.rdm_judge.specs.declared.verdict.Rule.{Rule}
use Rattle.rdm_judge.specs.declared.verdict.Rule.TheVariants as rules
use Rattle.rdm_judge.specs.Judging.{acks_beside, broken, broken_by_type, fetches, first_word, is_either, may_be_taken, rule_unless, same_parameter}
use Rattle.rdm_judge.proofs.Pairs.{Leaves, either_same, same_number}
use Rattle.rdm_judge.proofs.Answers.{Alike, Kind, Acked, Started, Refused, kind_of}

-- ---- the slots of a response

-- the frame of a response to a request
abbrev pub frame_for : Uid → Frame → ℕ → Response → Frame
frame_for own f count r = record { dst = f.src; src = own; tn = f.tn; port = r.port; count = count; sub = r.sub; class = r.class; pid = r.pid; body = r.body }

-- what is read of a number in so many slots
abbrev pub word : ℕ → ℕ
word n = from_be_bytes w16 (to_be_bytes w16 n)

abbrev pub uid : Uid → Uid
uid u = record { maker = word u.maker; device = from_be_bytes w32 (to_be_bytes w32 u.device) }

abbrev pub behind : Frame → List ℕ
behind x = to_be_bytes w16 (sum (head_slots x ++ x.body) % 65536)

-- what is read of the text of a frame
abbrev pub seen : Frame → Frame
seen x = record { dst = uid x.dst; src = uid x.src; tn = x.tn; port = x.port; count = x.count; sub = word x.sub; class = x.class; pid = word x.pid; body = take (length x.body) (x.body ++ behind x) }

pub read_of : (x : Frame) → frame_of (frame_text x) ≡ seen x
unfolding frame_of frame_text head_slots
read_of x = refl

-- ---- response types

-- a response of this kind: its type and the first word of its data
abbrev pub Shape : Profile → Frame → Kind → ℕ → ℕ → Type 0
Shape p f Acked port n = port ≡ 0
Shape p f (Refused nack) port n = (port ≡ 2) × (n ≡ nack_code nack)
Shape p f (Started w) port n = ((port ≡ 1) × (n ≡ word (estimate_of p w))) ⊎ ((port ≡ 2) × (n ≡ 7))

not_set : (f : Frame) (n : Nack) → Leaves f n → may_be_taken f (nack_code n) ≡ true
not_set f DataOutOfRange leaves = refl
not_set f WriteProtect set = rw set refl
not_set f UnknownPid leaves = absurd leaves
not_set f FormatError leaves = absurd leaves
not_set f UnsupportedCommandClass leaves = absurd leaves
not_set f BufferFull leaves = absurd leaves
not_set f SubDeviceOutOfRange leaves = absurd leaves

kept : (b : Bool) (rule : Rule) → b ≡ true → rule_unless b rule ≡ None
kept true rule e = refl
kept false rule e = absurd cc

same_estimate : (n m : ℕ) → n ≡ m → acks_beside 1 n 1 m ≡ None
same_estimate n m e = rw (eq-eqb n m e) refl

pub types_alike : (p : Profile) (f : Frame) (k l : Kind) (port n other m : ℕ) → Alike f k l → Shape p f k port n → Shape p f l other m → broken_by_type f port n other m ≡ None
types_alike p f Acked Acked port n other m alike s t = rw (s, t) refl
types_alike p f Acked (Refused nack) port n other m leaves s t = rw (s, t.0, t.1) (kept (may_be_taken f (nack_code nack)) rules.Reason (not_set f nack leaves))
types_alike p f (Refused nack) Acked port n other m leaves s t = rw (s.0, s.1, t) (kept (may_be_taken f (nack_code nack)) rules.Reason (not_set f nack leaves))
types_alike p f (Refused nack) (Refused other_nack) port n other m alike s t = rw (s.0, s.1, t.0, t.1) (kept (is_either f (nack_code nack) (nack_code other_nack)) rules.Reason alike)
types_alike p f Acked (Started w) port n other m alike s t = absurd alike
types_alike p f (Started w) Acked port n other m alike s t = absurd alike
types_alike p f (Refused nack) (Started w) port n other m alike s t = absurd alike
types_alike p f (Started w) (Refused nack) port n other m alike s t = absurd alike
types_alike p f (Started w) (Started x) port n other m alike (inl s) (inl t) = rw (s.0, s.1, t.0, t.1) (same_estimate (word (estimate_of p w)) (word (estimate_of p x)) (ap (λ (y : Work). word (estimate_of p y)) alike))
types_alike p f (Started w) (Started x) port n other m alike (inl s) (inr t) = rw (s.0, t.0, t.1) refl
types_alike p f (Started w) (Started x) port n other m alike (inr s) (inl t) = rw (s.0, s.1, t.0) refl
types_alike p f (Started w) (Started x) port n other m alike (inr s) (inr t) = rw (s.0, s.1, t.0, t.1) (kept (is_either f 7 7) rules.Reason (either_same f 7))

-- the first word of data of two slots, and of those behind them
two_slots : (n : ℕ) (end : List ℕ) → first_word (take (length (to_be_bytes w16 n)) (to_be_bytes w16 n ++ end)) ≡ word n
two_slots n end = refl

code_again : (n : Nack) → word (nack_code n) ≡ nack_code n
code_again UnknownPid = refl
code_again FormatError = refl
code_again UnsupportedCommandClass = refl
code_again DataOutOfRange = refl
code_again WriteProtect = refl
code_again BufferFull = refl
code_again SubDeviceOutOfRange = refl

-- the shape of the response that a verdict gets
shape_at : (p : Profile) (b : outbox.Account) (f : Frame) (w : Work) (room : Bool) (end : List ℕ) → has_room b w ≡ room → Shape p f (Started w) (response_of p b f (Start w)).port (first_word (take (length (response_of p b f (Start w)).body) ((response_of p b f (Start w)).body ++ end)))
shape_at p b f w true end room = rw room (inl (refl, refl))
shape_at p b f w false end room = rw room (inr (refl, refl))

pub shape_of : (p : Profile) (b : outbox.Account) (f : Frame) (v : Verdict) (end : List ℕ) → Shape p f (kind_of v) (response_of p b f v).port (first_word (take (length (response_of p b f v).body) ((response_of p b f v).body ++ end)))
shape_of p b f (Reply bytes) end = refl
shape_of p b f (Queue ask) end = refl
shape_of p b f (Status ask) end = refl
shape_of p b f Clear end = refl
shape_of p b f (Refuse n) end = (refl, code_again n)
shape_of p b f (Start w) end = shape_at p b f w (has_room b w) end refl

-- ---- the parameter

-- the response has the parameter of the request, or the request fetches what waits
abbrev pub Heads : Frame → Response → Type 0
Heads f r = (fetches f ≡ true) ⊎ ((r.sub ≡ f.sub) × (r.class ≡ f.class + 1) × (r.pid ≡ f.pid))

self : (u : Uid) → same_uid u u ≡ true
self u = rw (same_number u.maker, same_number u.device) refl

any_true : (a b : Bool) → b ≡ true → (a || b) ≡ true
any_true true b e = refl
any_true false b e = e

alike_parameter : (f : Frame) (r s : Response) → Heads f r → Heads f s → (fetches f || ((word r.sub == word s.sub) && (r.class == s.class) && (word r.pid == word s.pid))) ≡ true
alike_parameter f r s (inl fetched) t = rw fetched refl
alike_parameter f r s (inr h) (inl fetched) = rw fetched refl
alike_parameter f r s (inr h) (inr k) =
    any_true (fetches f) _ (rw (eq-eqb (word r.sub) (word s.sub) (ap word (h.0 ∙ sym k.0)), eq-eqb r.class s.class (h.1 ∙ sym k.1), eq-eqb (word r.pid) (word s.pid) (ap word (h.2 ∙ sym k.2))) refl)

none_broken : (f g r : Frame) → (same_uid g.dst r.dst && same_uid g.src r.src) ≡ true → (g.tn == r.tn) ≡ true → (fetches f || same_parameter g r) ≡ true → broken_by_type f g.port (first_word g.body) r.port (first_word r.body) ≡ None → broken f g r ≡ None
none_broken f g r addresses tn parameter types = rw (addresses, tn, parameter) types

pub never_broken : (p : Profile) (own : Uid) (f : Frame) (b c : outbox.Account) (v w : Verdict) (count other : ℕ) → Alike f (kind_of v) (kind_of w) → Heads f (response_of p b f v) → Heads f (response_of p c f w) → broken f (frame_of (frame_text (frame_for own f count (response_of p b f v)))) (frame_of (frame_text (frame_for own f other (response_of p c f w)))) ≡ None
never_broken p own f b c v w count other alike h k =
    let x = frame_for own f count (response_of p b f v) in
    let y = frame_for own f other (response_of p c f w) in
    subst (λ (g : Frame). broken f g (frame_of (frame_text y)) ≡ None) (sym (read_of x)) (subst (λ (r : Frame). broken f (seen x) r ≡ None) (sym (read_of y))
    (none_broken f (seen x) (seen y) (rw (self (uid f.src), self (uid own)) refl) (same_number f.tn) (alike_parameter f (response_of p b f v) (response_of p c f w) h k)
    (types_alike p f (kind_of v) (kind_of w) (response_of p b f v).port (first_word (seen x).body) (response_of p c f w).port (first_word (seen y).body) alike (shape_of p b f v (behind x)) (shape_of p c f w (behind y)))))
