-- What a collector for any device hears before its transaction is over.
use Rattle.std.proofs.Common.{◌≡◌, ℕ, ◌==◌, ◌&&◌, ◌||◌, ◌⊎◌, Bool, true, false, cond, List, [], ◌∷◌, Option, Some, None, refl, sym, ap, subst, ◌∙◌, true≢false, inl, inr}
use Rattle.std.specs.List.{All, fold}
use Rattle.std.specs.Option.{option_map_or}
use Rattle.std.proofs.lemmas.Bool.{eqb-true, eq-eqb, or_cases, or_left, or_right}
use Rattle.std.proofs.lemmas.List.Elements.{All-head, All-tail, All-weaker}
use Rattle.rdm_frame.specs.declared.frame.Frame.{Frame}
use Rattle.rdm_frame.specs.Addressing.{same_uid}
use Rattle.rdm_frame.specs.FrameText.{frame_text, IsFrame}
use Rattle.rdm_frame.specs.Reading.{frame_in}
use Rattle.rdm_collector.specs.declared.transaction.Transaction.{Transaction}
use Rattle.rdm_collector.specs.declared.transaction.Transaction.TheVariants.{Poll, Command}
use Rattle.rdm_collector.specs.declared.reply.Response.{Response}
use Rattle.rdm_collector.specs.declared.any_device.heard.DeviceHeard.{DeviceHeard}
use Rattle.rdm_collector.specs.declared.any_device.heard.DeviceHeard.TheVariants as heard
use Rattle.rdm_collector.specs.declared.any_device.heard.Taken.TheVariants.{Answer, Reply, Nothing}
use Rattle.rdm_collector.specs.declared.any_device.collected.Collected.{Collected}
use Rattle.rdm_collector.specs.Answers.{is_poll, is_reply}
use Rattle.rdm_collector.specs.Replies.{response_in}
use Rattle.rdm_collector.specs.AnyDevice.Answers.{poll_heard, taken_for}
use Rattle.rdm_collector.specs.AnyDevice.Collecting.{DeviceState, after_poll, after_answer, after_taken, after_frame, after_hearing, collected}
use Rattle.rdm_collector.specs.AnyDevice.Devices.{IsReplyTo, IsNoise, poll_of}
use Rattle.rdm_collector.proofs.Hearing.{from_both}
use Rattle.rdm_collector.proofs.ReadBack.{read_as_itself}

-- ---- noise

noise_at : (s : DeviceState) (f : Frame) (a b c : Bool) (o : Option Response) → ((r : Response) → a ≡ true → b ≡ true → c ≡ true → o ≡ Some r → ⊥)
    → cond a (after_taken (after_poll s) f (option_map_or (λ r. Answer r) (cond (b && c) o None) Nothing)) (after_poll s) ≡ after_poll s
noise_at s f false b c o never = refl
noise_at s f true false c o never = refl
noise_at s f true true false o never = refl
noise_at s f true true true None never = refl
noise_at s f true true true (Some r) never = absurd (never r refl refl refl refl)

class_from : (f : Frame) → ((f.class == 0x21) || (f.class == 0x31)) ≡ true → (f.class ≡ 0x21) ⊎ (f.class ≡ 0x31)
class_from f e =
    elim (or_cases (f.class == 0x21) (f.class == 0x31) e) [
      | inl get ↦ inl (eqb-true f.class 0x21 get)
      | inr set ↦ inr (eqb-true f.class 0x31 set)
    ]

noise_frame : (s : DeviceState) (bytes : List ℕ) (o : Option Frame) → frame_in bytes ≡ o → IsNoise (poll_of s) bytes
    → option_map_or (after_frame (after_poll s)) o (after_poll s) ≡ after_poll s
noise_frame s bytes None e n = refl
noise_frame s bytes (Some f) e n =
    let both = from_both f s.target s.uid in
    noise_at s f (same_uid f.src s.target && same_uid f.dst s.uid) (f.tn == s.tn) ((f.class == 0x21) || (f.class == 0x31)) (response_in f.port f.body)
    (λ r a b c o. n f r e (record { source = (both.0 a).0; destination = (both.0 a).1; number = eqb-true f.tn s.tn b; class = class_from f c; response = o }))

pub noise : (s : DeviceState) (bytes : List ℕ) → IsNoise (poll_of s) bytes → after_hearing (after_poll s) bytes ≡ after_poll s
noise s bytes n = noise_frame s bytes (frame_in bytes) refl n

pub noise_alone : (s : DeviceState) (bs : List (List ℕ)) → All (IsNoise (poll_of s)) bs → fold after_hearing (after_poll s) bs ≡ after_poll s
noise_alone s [] all = refl
noise_alone s (b ∷ bs) all =
    ap (λ (t : DeviceState). fold after_hearing t bs) (noise s b (All-head (IsNoise (poll_of s)) b bs all)) ∙ noise_alone s bs (All-tail (IsNoise (poll_of s)) b bs all)

-- ---- the reply

answered_at : (s : DeviceState) (f : Frame) (r : Response) (a b c : Bool) (o : Option Response) → a ≡ true → b ≡ true → c ≡ true → o ≡ Some r
    → cond a (after_taken (after_poll s) f (option_map_or (λ x. Answer x) (cond (b && c) o None) Nothing)) (after_poll s)
    ≡ after_answer (after_poll s) (collected s.unanswered (s.lost || s.unanswered) f r) (poll_heard f.pid r)
answered_at s f r a b c o ea eb ec eo = rw (ea, eb, ec, eo) refl

is_class : (f : Frame) → (f.class ≡ 0x21) ⊎ (f.class ≡ 0x31) → ((f.class == 0x21) || (f.class == 0x31)) ≡ true
is_class f (inl e) = or_left _ _ (eq-eqb f.class 0x21 e)
is_class f (inr e) = or_right _ _ (eq-eqb f.class 0x31 e)

pub heard_reply : (s : DeviceState) (f : Frame) (r : Response) → IsFrame f → IsReplyTo (poll_of s) f r
    → after_hearing (after_poll s) (frame_text f) ≡ after_answer (after_poll s) (collected s.unanswered (s.lost || s.unanswered) f r) (poll_heard f.pid r)
heard_reply s f r fits is =
    ap (λ (o : Option Frame). option_map_or (after_frame (after_poll s)) o (after_poll s)) (read_as_itself f fits)
    ∙ answered_at s f r (same_uid f.src s.target && same_uid f.dst s.uid) (f.tn == s.tn) ((f.class == 0x21) || (f.class == 0x31)) (response_in f.port f.body)
    ((from_both f s.target s.uid).1 (is.source, is.destination)) (eq-eqb f.tn s.tn is.number) (is_class f is.class) is.response

-- ---- no transaction is open

either_same : (c : Bool) (t : DeviceState) → cond c t t ≡ t
either_same true t = refl
either_same false t = refl

closed_frame : (t : DeviceState) (o : Option Frame) → t.transaction ≡ None → option_map_or (after_frame t) o t ≡ t
closed_frame t None e = refl
closed_frame t (Some f) e =
    let P : Option Transaction → Type 0 = λ x. cond (same_uid f.src t.target && same_uid f.dst t.uid) (after_taken t f (taken_for x f)) t ≡ t in
    subst P (sym e) (either_same (same_uid f.src t.target && same_uid f.dst t.uid) t)

closed : (t : DeviceState) (bs : List (List ℕ)) → t.transaction ≡ None → fold after_hearing t bs ≡ t
closed t [] e = refl
closed t (b ∷ bs) e = ap (λ (x : DeviceState). fold after_hearing x bs) (closed_frame t (frame_in b) e) ∙ closed t bs e

answer_closes : (t : DeviceState) (c : Collected) (h : DeviceHeard) → (after_answer t c h).transaction ≡ None
answer_closes t c heard.Message = refl
answer_closes t c heard.Part = refl
answer_closes t c heard.Unsupported = refl
answer_closes t c (heard.Refused reason) = refl
answer_closes t c (heard.NotYet tenths) = refl
answer_closes t c heard.Reply = refl
answer_closes t c heard.Ignored = refl

-- ---- noise and the reply

-- the bytes leave the one state as it is, or make it the other
abbrev LeavesOrMakes : DeviceState → DeviceState → List ℕ → Type 0
LeavesOrMakes t u b = (after_hearing t b ≡ t) ⊎ (after_hearing t b ≡ u)

listened : (t u : DeviceState) (bs : List (List ℕ)) → u.transaction ≡ None → All (LeavesOrMakes t u) bs → (fold after_hearing t bs ≡ t) ⊎ (fold after_hearing t bs ≡ u)
listened t u [] e all = inl refl
listened t u (b ∷ bs) e all =
    let P : DeviceState → Type 0 = λ x. (fold after_hearing x bs ≡ t) ⊎ (fold after_hearing x bs ≡ u) in
    elim (All-head (LeavesOrMakes t u) b bs all) [
      | inl same ↦ subst P (sym same) (listened t u bs e (All-tail (LeavesOrMakes t u) b bs all))
      | inr made ↦ subst P (sym made) (inr (closed u bs e))
    ]

abbrev pub IsReplyOrNoise : DeviceState → Frame → List ℕ → Type 0
IsReplyOrNoise s f b = (b ≡ frame_text f) ⊎ IsNoise (poll_of s) b

module _ (s : DeviceState) (f : Frame) (r : Response) (fits : IsFrame f) (is : IsReplyTo (poll_of s) f r) where
  abbrev answered : DeviceState
  answered = after_answer (after_poll s) (collected s.unanswered (s.lost || s.unanswered) f r) (poll_heard f.pid r)

  one_heard : (b : List ℕ) → IsReplyOrNoise s f b → LeavesOrMakes (after_poll s) answered b
  one_heard b (inl e) = inr (ap (λ (x : List ℕ). after_hearing (after_poll s) x) e ∙ heard_reply s f r fits is)
  one_heard b (inr n) = inl (noise s b n)

  pub reply_or_noise : (bs : List (List ℕ)) → All (IsReplyOrNoise s f) bs
      → (fold after_hearing (after_poll s) bs ≡ after_poll s) ⊎ (fold after_hearing (after_poll s) bs ≡ answered)
  reply_or_noise bs all =
      listened (after_poll s) answered bs (answer_closes (after_poll s) (collected s.unanswered (s.lost || s.unanswered) f r) (poll_heard f.pid r))
      (All-weaker (IsReplyOrNoise s f) (LeavesOrMakes (after_poll s) answered) one_heard bs all)

-- ---- after a command nothing is recorded

pub record IsStill (t u : DeviceState) : Type 0 where
  pub recorded : u.recorded ≡ t.recorded
  pub unanswered : u.unanswered ≡ t.unanswered
  pub no_poll : is_poll u.transaction ≡ false

reply_still : (t : DeviceState) (f : Frame) (c : Bool) → is_poll t.transaction ≡ false → IsStill t (after_taken t f (cond c Reply Nothing))
reply_still t f true e = record { recorded = refl; unanswered = refl; no_poll = refl }
reply_still t f false e = record { recorded = refl; unanswered = refl; no_poll = e }

taken_still : (t : DeviceState) (f : Frame) (o : Option Transaction) → is_poll t.transaction ≡ false → is_poll o ≡ false → IsStill t (after_taken t f (taken_for o f))
taken_still t f None e eo = record { recorded = refl; unanswered = refl; no_poll = e }
taken_still t f (Some (Poll tn)) e eo = absurd (true≢false eo)
taken_still t f (Some (Command tn class sub pid)) e eo = reply_still t f (is_reply tn class sub pid f) e

either_still : (t u : DeviceState) (c : Bool) → IsStill t u → IsStill t t → IsStill t (cond c u t)
either_still t u true h k = h
either_still t u false h k = k

frame_still : (t : DeviceState) (o : Option Frame) → is_poll t.transaction ≡ false → IsStill t (option_map_or (after_frame t) o t)
frame_still t None e = record { recorded = refl; unanswered = refl; no_poll = e }
frame_still t (Some f) e =
    either_still t (after_taken t f (taken_for t.transaction f)) (same_uid f.src t.target && same_uid f.dst t.uid)
    (taken_still t f t.transaction e e) (record { recorded = refl; unanswered = refl; no_poll = e })

pub command_still : (t : DeviceState) (bs : List (List ℕ)) → is_poll t.transaction ≡ false → IsStill t (fold after_hearing t bs)
command_still t [] e = record { recorded = refl; unanswered = refl; no_poll = e }
command_still t (b ∷ bs) e =
    let one = frame_still t (frame_in b) e in
    let others = command_still (after_hearing t b) bs one.no_poll in
    record { recorded = others.recorded ∙ one.recorded; unanswered = others.unanswered ∙ one.unanswered; no_poll = others.no_poll }
