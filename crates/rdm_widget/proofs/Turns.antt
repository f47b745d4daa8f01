-- One part of a stream after another.
use Rattle.std.proofs.Common.{◌≡◌, ℕ, ◌+◌, ◌-◌, ◌<◌, ◌≤◌, List, [], ◌∷◌, ◌++◌, length, take, drop, Option, Some, None, refl, sym, ap, subst, ◌∙◌, arith, append_assoc, append-nil}
use Rattle.std.specs.Prelude.{Result, Ok, Err, OnOk, OnErr}
use Rattle.std.specs.Io.KnownBytes.{Appends, Consumes, Keeps}
use Rattle.std.proofs.lemmas.List.{map-append, take_all, length-drop, drop-drop}
use Rattle.rdm_messages.specs.Framing.{Message, IsMessage, message_bytes, bytes_of, IsUnfinished, IsStray, Begins}
use Rattle.rdm_messages.specs.Hearing.{Hearing}
use Rattle.rdm_messages.specs.Protocol.{answer_to, after_message}
use Rattle.rdm_messages.specs.Ends.{end_at}
use Rattle.rdm_messages.specs.Serving.{Turn, messages_in, times_of, after_turns, answer_in, answers, Tells, IsServed, AreDone, AllWritten, LastCutShort, IsServedOnce, IsCutShort}
use Rattle.rdm_messages.proofs.Frames.{unfinished_none}
use Rattle.rdm_messages.proofs.Beginnings.{begins_none, begins_stray, begins_said, begins_then, begins_more}

-- ---- turns

after_turns-append : {D S : Type 0} (line : Hearing D S) (s : S) (ts us : List Turn) → after_turns line s (ts ++ us) ≡ after_turns line (after_turns line s ts) us
after_turns-append line s [] us = refl
after_turns-append line s (t ∷ ts) us = after_turns-append line (after_message line t.at s t.message) ts us

answers-append : {D S : Type 0} (line : Hearing D S) (s : S) (ts us : List Turn) → answers line s (ts ++ us) ≡ answers line s ts ++ answers line (after_turns line s ts) us
answers-append line s [] us = refl
answers-append line s (t ∷ ts) us =
    ap (λ l. bytes_of (answer_to line t.at s t.message) ++ l) (answers-append line (after_message line t.at s t.message) ts us)
    ∙ sym (append_assoc (bytes_of (answer_to line t.at s t.message)) (answers line (after_message line t.at s t.message) ts) (answers line (after_turns line s (t ∷ ts)) us))

Tells-append : {C : Type 0} (tells : C → ℕ → C → Type 0) (a b c : C) (ts us : List ℕ) → Tells tells a ts b → Tells tells b us c → Tells tells a (ts ++ us) c
Tells-append tells a b c [] us one two = subst (λ x. Tells tells x us c) one two
Tells-append tells a b c (t ∷ ts) us one two = (one.0, (one.1.0, Tells-append tells one.0 b c ts us one.1.1 two))

-- ---- what is written

appends_none : (old : Option (List ℕ)) → Appends old old []
appends_none None = tt
appends_none (Some xs) = sym (append-nil xs)

pub appends_then : (old mid new : Option (List ℕ)) (xs ys : List ℕ) → Appends old mid xs → Appends mid new ys → Appends old new (xs ++ ys)
appends_then None mid new xs ys h k = tt
appends_then (Some a) None new xs ys h k = absurd h
appends_then (Some a) (Some b) None xs ys h k = absurd k
appends_then (Some a) (Some b) (Some c) xs ys h k = k ∙ ap (λ (zs : List ℕ). zs ++ ys) h ∙ append_assoc a xs ys

pub all_then : {D S : Type 0} (line : Hearing D S) (old mid new : Option (List ℕ)) (s : S) (ts us : List Turn) → AllWritten line old mid s ts → AllWritten line mid new (after_turns line s ts) us → AllWritten line old new s (ts ++ us)
all_then line old mid new s ts us h k =
    subst (Appends old new) (sym (answers-append line s ts us)) (appends_then old mid new (answers line s ts) (answers line (after_turns line s ts) us) h k)

pub short_then : {D S : Type 0} (line : Hearing D S) (old mid new : Option (List ℕ)) (s : S) (ts us : List Turn) → AllWritten line old mid s ts → LastCutShort line mid new (after_turns line s ts) us → LastCutShort line old new s (ts ++ us)
short_then {S = S} line old mid new s ts us h k =
    let last : List ℕ = take k.count (answer_in line (after_turns line (after_turns line s ts) k.before) k.last) in
    let then : List ℕ = answers line (after_turns line s ts) k.before in
    let all : Appends old new (answers line s ts ++ (then ++ last)) = appends_then old mid new (answers line s ts) (then ++ last) h k.written in
    let one : Appends old new ((answers line s ts ++ then) ++ last) = subst (Appends old new) (sym (append_assoc (answers line s ts) then last)) all in
    let two : Appends old new (answers line s (ts ++ k.before) ++ last) = subst (λ (l : List ℕ). Appends old new (l ++ last)) (sym (answers-append line s ts k.before)) one in
    record {
      before = ts ++ k.before;
      last = k.last;
      count = k.count;
      ends = ap (λ (l : List Turn). ts ++ l) k.ends ∙ sym (append_assoc ts k.before (k.last ∷ []));
      lacks = subst (λ (t : S). k.count < length (answer_in line t k.last)) (sym (after_turns-append line s ts k.before)) k.lacks;
      written =
          subst (λ (t : S). Appends old new (answers line s (ts ++ k.before) ++ take k.count (answer_in line t k.last)))
          (sym (after_turns-append line s ts k.before)) two;
    }

-- ---- what is read

pub consumes_none : (old : Option (List ℕ)) → Consumes old old []
consumes_none None = tt
consumes_none (Some xs) = refl

pub consumes_then : (old mid new : Option (List ℕ)) (xs ys : List ℕ) → Consumes old mid xs → Consumes mid new ys → Consumes old new (xs ++ ys)
consumes_then None mid new xs ys h k = tt
consumes_then (Some a) None new xs ys h k = absurd h
consumes_then (Some a) (Some b) None xs ys h k = absurd k
consumes_then (Some a) (Some b) (Some c) xs ys h k = h ∙ ap (λ (zs : List ℕ). xs ++ zs) k ∙ sym (append_assoc xs ys c)

pub consumes_kept : (old mid new : Option (List ℕ)) (xs : List ℕ) → Consumes old mid xs → Keeps mid new → Consumes old new xs
consumes_kept None mid new xs h k = tt
consumes_kept (Some a) None new xs h k = absurd h
consumes_kept (Some a) (Some b) None xs h k = absurd k
consumes_kept (Some a) (Some b) (Some c) xs h k = h ∙ ap (λ (zs : List ℕ). xs ++ zs) (sym k)

-- ---- parts

pub join : {C D S : Type 0} (tells : C → ℕ → C → Type 0) (line : Hearing D S) (a b c : C) (bytes mid rest : List ℕ) (s : S) (d e : D) (W V U : S → List Turn → Type 0)
    → (one : AreDone tells line a b bytes mid s d W) → AreDone tells line b c mid rest (after_turns line s one.turns) e V
    → ((ts us : List Turn) → W s ts → V (after_turns line s ts) us → U s (ts ++ us)) → AreDone tells line a c bytes rest s e U
join tells line a b c bytes mid rest s d e W V U one two all =
    record {
      turns = one.turns ++ two.turns;
      begins =
          subst (λ (ms : List Message). Begins bytes ms rest) (sym (map-append (λ (t : Turn). t.message) one.turns two.turns))
          (begins_then bytes mid rest (messages_in one.turns) (messages_in two.turns) one.begins two.begins);
      times =
          subst (λ l. Tells tells a l c) (sym (map-append (λ (t : Turn). t.at) one.turns two.turns))
          (Tells-append tells a b c (times_of one.turns) (times_of two.turns) one.times two.times);
      written = all one.turns two.turns one.written two.written;
      situation = subst (line.is_in e) (sym (after_turns-append line s one.turns two.turns)) two.situation;
    }

-- more is read behind what is left
pub more_read : {C D S : Type 0} (tells : C → ℕ → C → Type 0) (line : Hearing D S) (a b : C) (bytes rest more : List ℕ) (s : S) (d : D) (W : S → List Turn → Type 0)
    → AreDone tells line a b bytes rest s d W → AreDone tells line a b (bytes ++ more) (rest ++ more) s d W
more_read tells line a b bytes rest more s d W one = record {
  turns = one.turns;
  begins = begins_more bytes rest more (messages_in one.turns) one.begins;
  times = one.times;
  written = one.written;
  situation = one.situation;
}

-- nothing is done yet
pub none_done : {C D S : Type 0} (tells : C → ℕ → C → Type 0) (line : Hearing D S) (a : C) (bytes : List ℕ) (s : S) (d : D) (old : Option (List ℕ))
    → line.is_in d s → AreDone tells line a a bytes bytes s d (AllWritten line old old)
none_done tells line a bytes s d old is = record {
  turns = [];
  begins = begins_none bytes;
  times = refl;
  written = appends_none old;
  situation = is;
}

-- a stray byte is passed over
pub stray_done : {C D S : Type 0} (tells : C → ℕ → C → Type 0) (line : Hearing D S) (a : C) (bytes : List ℕ) (s : S) (d : D) (old : Option (List ℕ))
    → line.is_in d s → 0 < length bytes → IsStray bytes → AreDone tells line a a bytes (drop 1 bytes) s d (AllWritten line old old)
stray_done tells line a bytes s d old is some stray = record {
  turns = [];
  begins = begins_stray bytes some stray;
  times = refl;
  written = appends_none old;
  situation = is;
}

-- a message is answered
pub said_done : {C D S : Type 0} (tells : C → ℕ → C → Type 0) (line : Hearing D S) (a b : C) (bytes rest : List ℕ) (m : Message) (now : ℕ) (s : S) (d : D) (W : S → List Turn → Type 0)
    → IsMessage m → bytes ≡ message_bytes m ++ rest → tells a now b → W s (record { at = now; message = m } ∷ []) → line.is_in d (after_message line now s m) → AreDone tells line a b bytes rest s d W
said_done tells line a b bytes rest m now s d W is whole told written situation = record {
  turns = record { at = now; message = m } ∷ [];
  begins = begins_said bytes rest m is whole;
  times = (b, (told, refl));
  written = written;
  situation = situation;
}

-- ---- what has been served

pub served : {C D S : Type 0} (tells : C → ℕ → C → Type 0) (line : Hearing D S) (a b : C) (unread left old new : Option (List ℕ)) (input rest : List ℕ) (s : S) (d : D)
    → Consumes unread left input → AreDone tells line a b input rest s d (AllWritten line old new) → IsUnfinished rest
    → (kept : List ℕ) × IsServed tells line (end_at a unread old []) (end_at b left new kept) s d
served tells line a b unread left old new input rest s d read done unfinished = (
  rest,
  record {
    none_held = refl;
    input = input;
    turns = done.turns;
    read = read;
    begins = done.begins;
    unfinished = unfinished;
    times = done.times;
    written = done.written;
    situation = done.situation;
  },
)

-- ---- an answer that is written, whole or in part

pub answered_ok : {C D S A E : Type 0} (tells : C → ℕ → C → Type 0) (line : Hearing D S) (a b : C) (m : Message) (now : ℕ) (d e : D) (old new : Option (List ℕ)) (packet : List ℕ) (r : Result A E)
    → tells a now b → ((s : S) → line.is_in d s → packet ≡ bytes_of (answer_to line now s m)) → ((s : S) → line.is_in d s → line.is_in e (after_message line now s m)) → OnOk r (Appends old new packet)
    → OnOk r ((s : S) (bytes rest : List ℕ) → line.is_in d s → IsMessage m → bytes ≡ message_bytes m ++ rest → AreDone tells line a b bytes rest s e (AllWritten line old new))
answered_ok tells line a b m now d e old new packet (Ok u) told bytes_are after written =
    λ s bytes rest is message whole.
    said_done tells line a b bytes rest m now s e (AllWritten line old new) message whole told
    (subst (Appends old new) (bytes_are s is ∙ sym (append-nil (bytes_of (answer_to line now s m)))) written) (after s is)
answered_ok tells line a b m now d e old new packet (Err fault) told bytes_are after written = written

-- of this answer a front that isn't all of it
one_short : {D S : Type 0} (line : Hearing D S) (old new : Option (List ℕ)) (s : S) (turn : Turn) (packet : List ℕ) → packet ≡ answer_in line s turn
    → (count : ℕ) × (count < length packet) × Appends old new (take count packet) → LastCutShort line old new s (turn ∷ [])
one_short line old new s turn packet is cut = record {
  before = [];
  last = turn;
  count = cut.0;
  ends = refl;
  lacks = subst (λ (l : List ℕ). cut.0 < length l) is cut.1;
  written = subst (λ (l : List ℕ). Appends old new (take cut.0 l)) is cut.2;
}

pub answered_err : {C D S A E : Type 0} (tells : C → ℕ → C → Type 0) (line : Hearing D S) (a b : C) (m : Message) (now : ℕ) (d e : D) (old new : Option (List ℕ)) (packet : List ℕ) (r : Result A E)
    → tells a now b → ((s : S) → line.is_in d s → packet ≡ bytes_of (answer_to line now s m)) → ((s : S) → line.is_in d s → line.is_in e (after_message line now s m))
    → OnErr r ((count : ℕ) × (count < length packet) × Appends old new (take count packet))
    → OnErr r ((s : S) (bytes rest : List ℕ) → line.is_in d s → IsMessage m → bytes ≡ message_bytes m ++ rest → AreDone tells line a b bytes rest s e (LastCutShort line old new))
answered_err tells line a b m now d e old new packet (Ok u) told bytes_are after written = written
answered_err tells line a b m now d e old new packet (Err fault) told bytes_are after written =
    λ s bytes rest is message whole.
    said_done tells line a b bytes rest m now s e (LastCutShort line old new) message whole told
    (one_short line old new s (record { at = now; message = m }) packet (bytes_are s is) written) (after s is)

pub on_ok : {A E : Type 0} (r : Result A E) (P Q : Type 0) → OnOk r P → (P → Q) → OnOk r Q
on_ok (Ok a) P Q holds then = then holds
on_ok (Err e) P Q holds then = holds

-- after the first bytes of a buffer, the next ones
tail_of : (bytes : List ℕ) (done : ℕ) → take (length bytes - done) (drop done bytes) ≡ drop done bytes
tail_of bytes done = take_all (length bytes - done) (drop done bytes) (omega (arith, length-drop done bytes))

pub next_done : {C D S : Type 0} (tells : C → ℕ → C → Type 0) (line : Hearing D S) (a b c : C) (bytes : List ℕ) (done count : ℕ) (s : S) (d e : D) (W V U : S → List Turn → Type 0)
    → AreDone tells line a b bytes (drop done bytes) s d W
    → ((t : S) → line.is_in d t → AreDone tells line b c (take (length bytes - done) (drop done bytes)) (drop count (take (length bytes - done) (drop done bytes))) t e V)
    → ((ts us : List Turn) → W s ts → V (after_turns line s ts) us → U s (ts ++ us)) → AreDone tells line a c bytes (drop (done + count) bytes) s e U
next_done tells line a b c bytes done count s d e W V U one then all =
    subst (λ (l : List ℕ). AreDone tells line a c bytes l s e U) (drop-drop count done bytes)
    (join tells line a b c bytes (drop done bytes) (drop count (drop done bytes)) s d e W V U one
    (subst (λ (l : List ℕ). AreDone tells line b c l (drop count l) (after_turns line s one.turns) e V) (tail_of bytes done) (then (after_turns line s one.turns) one.situation)) all)

pub next_fails : {C D S : Type 0} (tells : C → ℕ → C → Type 0) (line : Hearing D S) (a b c : C) (bytes : List ℕ) (done : ℕ) (s : S) (d e : D) (W V U : S → List Turn → Type 0)
    → AreDone tells line a b bytes (drop done bytes) s d W
    → ((t : S) → line.is_in d t → (rest : List ℕ) × AreDone tells line b c (take (length bytes - done) (drop done bytes)) rest t e V)
    → ((ts us : List Turn) → W s ts → V (after_turns line s ts) us → U s (ts ++ us)) → (rest : List ℕ) × AreDone tells line a c bytes rest s e U
next_fails tells line a b c bytes done s d e W V U one then all =
    let two = then (after_turns line s one.turns) one.situation in (
      two.0,
      join tells line a b c bytes (drop done bytes) two.0 s d e W V U one
          (subst (λ (l : List ℕ). AreDone tells line b c l two.0 (after_turns line s one.turns) e V) (tail_of bytes done) two.1) all,
    )

pub rest_within : (bytes : List ℕ) (done count : ℕ) → done ≤ length bytes → count ≤ length (take (length bytes - done) (drop done bytes)) → done + count ≤ length bytes
rest_within bytes done count low most =
    let size : length (take (length bytes - done) (drop done bytes)) ≡ length bytes - done = ap (λ (l : List ℕ). length l) (tail_of bytes done) ∙ length-drop done bytes in
    omega (arith, low, most, size)

pub rest_unfinished : (bytes : List ℕ) (done count : ℕ) → count ≡ 0 → IsUnfinished (take (length bytes - done) (drop done bytes)) → IsUnfinished (drop (done + count) bytes)
rest_unfinished bytes done count none unfinished =
    let same : done ≡ done + count = omega (arith, none) in
    subst (λ n. IsUnfinished (drop n bytes)) same (subst IsUnfinished (tail_of bytes done) unfinished)

-- ---- one read after another

-- what was read since the start, and what is held of it
pub record SoFar {C D S : Type 0} (tells : C → ℕ → C → Type 0) (line : Hearing D S) (a b : C) (unread left old new : Option (List ℕ)) (held : List ℕ) (s : S) (d : D) : Type 0 where
  pub input : List ℕ
  pub read : Consumes unread left input
  pub done : AreDone tells line a b input held s d (AllWritten line old new)
  pub unfinished : IsUnfinished held

pub nothing_so_far : {C D S : Type 0} (tells : C → ℕ → C → Type 0) (line : Hearing D S) (a : C) (unread old : Option (List ℕ)) (held : List ℕ) (s : S) (d : D)
    → held ≡ [] → line.is_in d s → SoFar tells line a a unread unread old old held s d
nothing_so_far tells line a unread old held s d none is = record {
  input = [];
  read = consumes_none unread;
  done = subst (λ (l : List ℕ). AreDone tells line a a [] l s d (AllWritten line old old)) (sym none) (none_done tells line a [] s d old is);
  unfinished = subst IsUnfinished (sym none) unfinished_none;
}

pub read_once : {C D S : Type 0} (tells : C → ℕ → C → Type 0) (line : Hearing D S) (a b : C) (unread left old new : Option (List ℕ)) (held bytes buffer kept : List ℕ) (count done : ℕ) (s : S) (d : D)
    → buffer ≡ held ++ bytes → length bytes ≡ count → Consumes unread left bytes → kept ≡ drop done buffer → AreDone tells line a b buffer (drop done buffer) s d (AllWritten line old new)
    → IsUnfinished (drop done buffer) → IsServedOnce tells line (end_at a unread old held) (end_at b left new kept) count s d
read_once tells line a b unread left old new held bytes buffer kept count done s d is size read kept_is all unfinished = record {
  input = bytes;
  size = size;
  read = read;
  done =
      subst (λ (l : List ℕ). AreDone tells line a b l kept s d (AllWritten line old new)) is
      (subst (λ (l : List ℕ). AreDone tells line a b buffer l s d (AllWritten line old new)) (sym kept_is) all);
  unfinished = subst IsUnfinished (sym kept_is) unfinished;
}

pub cut_once : {C D S : Type 0} (tells : C → ℕ → C → Type 0) (line : Hearing D S) (a b : C) (unread left old new : Option (List ℕ)) (held kept bytes buffer : List ℕ) (s : S) (d : D)
    → buffer ≡ held ++ bytes → Consumes unread left bytes → (rest : List ℕ) × AreDone tells line a b buffer rest s d (LastCutShort line old new)
    → IsCutShort tells line (end_at a unread old held) (end_at b left new kept) s d
cut_once tells line a b unread left old new held kept bytes buffer s d is read short = record {
  input = bytes;
  rest = short.0;
  read = read;
  done = subst (λ (l : List ℕ). AreDone tells line a b l short.0 s d (LastCutShort line old new)) is short.1;
}

pub served_on : {C D S : Type 0} (tells : C → ℕ → C → Type 0) (line : Hearing D S) (a b c : C) (unread then left old mid new : Option (List ℕ)) (held kept : List ℕ) (count : ℕ) (s : S) (d e : D)
    → SoFar tells line a b unread then old mid held s d → ((t : S) → line.is_in d t → IsServedOnce tells line (end_at b then mid held) (end_at c left new kept) count t e)
    → SoFar tells line a c unread left old new kept s e
unfolding more_read
served_on tells line a b c unread then left old mid new held kept count s d e so next =
    let two = next (after_turns line s so.done.turns) so.done.situation in
    let first : AreDone tells line a b (so.input ++ two.input) (held ++ two.input) s d (AllWritten line old mid) =
    more_read tells line a b so.input held two.input s d (AllWritten line old mid) so.done in
    record {
      input = so.input ++ two.input;
      read = consumes_then unread then left so.input two.input so.read two.read;
      done =
          join tells line a b c (so.input ++ two.input) (held ++ two.input) kept s d e (AllWritten line old mid) (AllWritten line mid new) (AllWritten line old new)
          first two.done (all_then line old mid new s);
      unfinished = two.unfinished;
    }

pub fails_on : {C D S : Type 0} (tells : C → ℕ → C → Type 0) (line : Hearing D S) (a b c : C) (unread then left old mid new : Option (List ℕ)) (held kept : List ℕ) (s : S) (d e : D)
    → SoFar tells line a b unread then old mid held s d → ((t : S) → line.is_in d t → IsCutShort tells line (end_at b then mid held) (end_at c left new kept) t e)
    → IsCutShort tells line (end_at a unread old []) (end_at c left new []) s e
unfolding more_read
fails_on tells line a b c unread then left old mid new held kept s d e so next =
    let two = next (after_turns line s so.done.turns) so.done.situation in
    let first : AreDone tells line a b (so.input ++ two.input) (held ++ two.input) s d (AllWritten line old mid) =
    more_read tells line a b so.input held two.input s d (AllWritten line old mid) so.done in
    record {
      input = so.input ++ two.input;
      rest = two.rest;
      read = consumes_then unread then left so.input two.input so.read two.read;
      done =
          join tells line a b c (so.input ++ two.input) (held ++ two.input) two.rest s d e (AllWritten line old mid) (LastCutShort line mid new) (LastCutShort line old new)
          first two.done (short_then line old mid new s);
    }

pub all_served : {C D S : Type 0} (tells : C → ℕ → C → Type 0) (line : Hearing D S) (a b : C) (unread left old new : Option (List ℕ)) (held : List ℕ) (s : S) (d : D)
    → SoFar tells line a b unread left old new held s d → (kept : List ℕ) × IsServed tells line (end_at a unread old []) (end_at b left new kept) s d
all_served tells line a b unread left old new held s d so = served tells line a b unread left old new so.input held s d so.read so.done so.unfinished

-- a read that failed
pub not_read : {C D S : Type 0} (tells : C → ℕ → C → Type 0) (line : Hearing D S) (a b : C) (unread then left old new : Option (List ℕ)) (held : List ℕ) (s : S) (d : D)
    → Keeps then left → SoFar tells line a b unread then old new held s d → (kept : List ℕ) × IsServed tells line (end_at a unread old []) (end_at b left new kept) s d
not_read tells line a b unread then left old new held s d kept so =
    served tells line a b unread left old new so.input held s d (consumes_kept unread then left so.input so.read kept) so.done so.unfinished

-- and changed nothing
pub still_served : {C D S : Type 0} (tells : C → ℕ → C → Type 0) (line : Hearing D S) (a b c : C) (unread then left old new same : Option (List ℕ)) (held : List ℕ) (s : S) (d e : D)
    → c ≡ b → same ≡ new → e ≡ d → Keeps then left → SoFar tells line a b unread then old new held s d
    → (kept : List ℕ) × IsServed tells line (end_at a unread old []) (end_at c left same kept) s e
still_served tells line a b c unread then left old new same held s d e clock writer stays kept so =
    subst (λ x. (kept : List ℕ) × IsServed tells line (end_at a unread old []) (end_at x left same kept) s e) (sym clock)
    (subst (λ (l : Option (List ℕ)). (kept : List ℕ) × IsServed tells line (end_at a unread old []) (end_at b left l kept) s e) (sym writer)
    (subst (λ x. (kept : List ℕ) × IsServed tells line (end_at a unread old []) (end_at b left new kept) s x) (sym stays) (not_read tells line a b unread then left old new held s d kept so)))

-- the same fault of another call
abbrev pub as_fault : {A B E : Type 0} → E → Result A E → Result B E
as_fault fault (Ok a) = Err fault
as_fault fault (Err e) = Err e
