-- The next message that belongs, of one part of a stream after another.
use Rattle.std.proofs.Common.{◌≡◌, ℕ, zero, suc, ◌+◌, ◌-◌, ◌<◌, ◌≤◌, Bool, true, false, cond, ◌||◌, List, [], ◌∷◌, ◌++◌, length, take, drop, Option, Some, None, refl, sym, ap, subst, ◌∙◌, arith, append_assoc, length-append, length-drop}
use Rattle.std.specs.List.{list_any}
use Rattle.std.proofs.lemmas.List.{take_all, drop-drop}
use Rattle.std.proofs.lemmas.List.Folds.{list_any-append}
use Rattle.rdm_messages.specs.Framing.{Message, IsMessage, message_bytes, IsUnfinished, IsStray, IsWhole, Begins, stream_of}
use Rattle.rdm_messages.proofs.Beginnings.{begins_none, begins_stray, begins_said, begins_then, begins_more, length-message_bytes, rest_is, unfinished_short}
use Rattle.rdm_interface.specs.Exchanges.{IsTaken, IsNext}

-- ---- one step

-- nothing is looked at yet
pub next_none : (b : Message → Bool) (stream : List ℕ) → IsNext b stream None stream
next_none b stream = record { passed = []; behind = stream; begins = begins_none stream; others = refl; taken = refl }

-- a byte with which no message begins is passed over
pub next_stray : (b : Message → Bool) (stream : List ℕ) → 0 < length stream → IsStray stream → IsNext b stream None (drop 1 stream)
next_stray b stream some stray = record { passed = []; behind = drop 1 stream; begins = begins_stray stream some stray; others = refl; taken = refl }

-- a message that doesn't belong is passed over
next_other : (b : Message → Bool) (stream rest : List ℕ) (m : Message) → IsMessage m → stream ≡ message_bytes m ++ rest → b m ≡ false → IsNext b stream None rest
next_other b stream rest m is whole other =
    record { passed = m ∷ []; behind = rest; begins = begins_said stream rest m is whole; others = ap (λ t. t || false) other; taken = refl }

-- the message that belongs is taken
next_own : (b : Message → Bool) (stream rest : List ℕ) (m : Message) → IsMessage m → stream ≡ message_bytes m ++ rest → b m ≡ true → IsNext b stream (Some m) rest
next_own b stream rest m is whole own = record { passed = []; behind = stream; begins = begins_none stream; others = refl; taken = (own, is, whole) }

-- the message at the front, if it belongs
abbrev pub claimed_by : Bool → Message → Option Message
claimed_by t m = cond t (Some m) None

next_by : (b : Message → Bool) (stream rest : List ℕ) (m : Message) (t : Bool) → IsMessage m → stream ≡ message_bytes m ++ rest → b m ≡ t → IsNext b stream (claimed_by t m) rest
next_by b stream rest m true is whole e = next_own b stream rest m is whole e
next_by b stream rest m false is whole e = next_other b stream rest m is whole e

pub next_front : (b : Message → Bool) (stream : List ℕ) (m : Message) (came : Option Message) → IsWhole stream m → came ≡ claimed_by (b m) m → IsNext b stream came (drop (length m.body + 5) stream)
next_front b stream m came w e =
    subst (λ (l : List ℕ). IsNext b stream came l) (rest_is stream w.rest m w.whole)
    (subst (λ (o : Option Message). IsNext b stream o w.rest) (sym e) (next_by b stream w.rest m (b m) w.is_message w.whole refl))

-- ---- one after another

neither : (b : Message → Bool) (ms ns : List Message) → list_any b ms ≡ false → list_any b ns ≡ false → list_any b (ms ++ ns) ≡ false
neither b ms ns e f = list_any-append b ms ns ∙ ap (λ t. t || list_any b ns) e ∙ f

-- nothing belongs in the first part: the rest goes on
pub next_then : (b : Message → Bool) (stream mid rest : List ℕ) (came : Option Message) → IsNext b stream None mid → IsNext b mid came rest → IsNext b stream came rest
next_then b stream mid rest came one two = record {
  passed = one.passed ++ two.passed;
  behind = two.behind;
  begins = begins_then stream mid two.behind one.passed two.passed (subst (Begins stream one.passed) one.taken one.begins) two.begins;
  others = neither b one.passed two.passed one.others two.others;
  taken = two.taken;
}

taken_more : (b : Message → Bool) (stream rest more : List ℕ) (came : Option Message) → IsTaken b stream came rest → IsTaken b (stream ++ more) came (rest ++ more)
taken_more b stream rest more None t = ap (λ (l : List ℕ). l ++ more) t
taken_more b stream rest more (Some m) t = (t.0, t.1, ap (λ (l : List ℕ). l ++ more) t.2 ∙ append_assoc (message_bytes m) rest more)

-- more comes behind it
pub next_more : (b : Message → Bool) (stream rest more : List ℕ) (came : Option Message) → IsNext b stream came rest → IsNext b (stream ++ more) came (rest ++ more)
next_more b stream rest more came one = record {
  passed = one.passed;
  behind = one.behind ++ more;
  begins = begins_more stream one.behind more one.passed one.begins;
  others = one.others;
  taken = taken_more b one.behind rest more came one.taken;
}

-- ---- in a buffer

-- after the first bytes of a buffer, the next ones
tail_of : (bytes : List ℕ) (done : ℕ) → take (length bytes - done) (drop done bytes) ≡ drop done bytes
tail_of bytes done = take_all (length bytes - done) (drop done bytes) (omega (arith, length-drop done bytes))

pub next_on : (b : Message → Bool) (bytes : List ℕ) (done count : ℕ) (came : Option Message) → IsNext b bytes None (drop done bytes)
    → IsNext b (take (length bytes - done) (drop done bytes)) came (drop count (take (length bytes - done) (drop done bytes))) → IsNext b bytes came (drop (done + count) bytes)
next_on b bytes done count came one two =
    next_then b bytes (drop done bytes) (drop (done + count) bytes) came one
    (subst (λ (l : List ℕ). IsNext b (drop done bytes) came l) (drop-drop count done bytes)
    (subst (λ (l : List ℕ). IsNext b l came (drop count l)) (tail_of bytes done) two))

pub within_on : (bytes : List ℕ) (done count : ℕ) → done ≤ length bytes → count ≤ length (take (length bytes - done) (drop done bytes)) → done + count ≤ length bytes
within_on bytes done count low most =
    let size : length (take (length bytes - done) (drop done bytes)) ≡ length bytes - done = ap (λ (l : List ℕ). length l) (tail_of bytes done) ∙ length-drop done bytes in
    omega (arith, low, most, size)

pub unfinished_on : (bytes : List ℕ) (done : ℕ) → IsUnfinished (take (length bytes - done) (drop done bytes)) → IsUnfinished (drop done bytes)
unfinished_on bytes done unfinished = subst IsUnfinished (tail_of bytes done) unfinished

-- ---- room

behind_short : (stream behind : List ℕ) (ms : List Message) → Begins stream ms behind → length behind ≤ length stream
behind_short stream behind ms one =
    let size : length stream ≡ length (stream_of one.pieces) + length behind = ap (λ (l : List ℕ). length l) one.whole ∙ length-append (stream_of one.pieces) behind in
    omega (arith, size)

pub room_left : (b : Message → Bool) (held kept : List ℕ) (came : Option Message) → length held ≤ 605 → IsNext b held came kept → (came ≡ None → IsUnfinished kept) → length kept < 605
room_left b held kept None most next unfinished = unfinished_short kept (unfinished refl)
room_left b held kept (Some m) most next unfinished =
    let size : length next.behind ≡ length (message_bytes m) + length kept = ap (λ (l : List ℕ). length l) next.taken.2 ∙ length-append (message_bytes m) kept in
    omega (arith, most, size, length-message_bytes m, behind_short held next.behind next.passed next.begins)

-- ---- as many bytes as a frame has

pub front_size : (n : ℕ) (xs : List ℕ) → n < length xs → n ≡ length (take n xs)
front_size zero xs h = refl
front_size (suc n) [] h = absurd (omega (arith, h))
front_size (suc n) (x ∷ xs) h = ap suc (front_size n xs (omega (arith, h)))
