-- Pieces of a stream.
use Rattle.std.proofs.Common.{◌≡◌, ℕ, suc, ◌+◌, ◌/◌, ◌%◌, List, [], ◌∷◌, ◌++◌, length, take, drop, get_or, refl, sym, ap, subst, ◌∙◌, arith, append_assoc, append-nil, length-append}
use Rattle.std.specs.List.{All}
use Rattle.std.proofs.Math.Seq.{take-append_seam, drop-append_seam}
use Rattle.rdm_messages.specs.Framing.{Message, IsMessage, message_bytes, bytes_of, IsUnfinished, IsStray, Piece, Rubbish, Said, stream_of, messages_of, AreCut, Holds}
use Rattle.rdm_messages.proofs.Frames.{unfinished_none}

-- ---- one message at the front

same_length : (n k : ℕ) → n % 256 ≡ k % 256 → n / 256 ≡ k / 256 → n ≡ k
same_length n k e f = omega arith

same_fronts : (xs ys ends others : List ℕ) → length xs ≡ length ys → xs ++ ends ≡ ys ++ others → (xs ≡ ys) × (ends ≡ others)
same_fronts xs ys ends others size e = (
  sym (take-append_seam xs ends) ∙ ap (λ n. take n (xs ++ ends)) size ∙ ap (λ l. take (length ys) l) e ∙ take-append_seam ys others,
  sym (drop-append_seam xs ends) ∙ ap (λ n. drop n (xs ++ ends)) size ∙ ap (λ l. drop (length ys) l) e ∙ drop-append_seam ys others,
)

abbrev message_with : ℕ → List ℕ → Message
message_with label body = record { label = label; body = body }

same_message : (m n : Message) → m.label ≡ n.label → m.body ≡ n.body → m ≡ n
same_message m n e f = ap (λ a. message_with a m.body) e ∙ ap (λ (xs : List ℕ). message_with n.label xs) f

pub record SameFront (m n : Message) (ends others : List ℕ) : Type 0 where
  pub message : m ≡ n
  pub rest : ends ≡ others

pub one_message : (m n : Message) (ends others : List ℕ) → message_bytes m ++ ends ≡ message_bytes n ++ others → SameFront m n ends others
one_message m n ends others e =
    let label : m.label ≡ n.label = ap (λ l. get_or l 1 0) e in
    let size : length m.body ≡ length n.body = same_length (length m.body) (length n.body) (ap (λ l. get_or l 2 0) e) (ap (λ l. get_or l 3 0) e) in
    let tails : m.body ++ 0xE7 ∷ ends ≡ n.body ++ 0xE7 ∷ others = sym (append_assoc m.body (0xE7 ∷ []) ends) ∙ ap (λ l. drop 4 l) e ∙ append_assoc n.body (0xE7 ∷ []) others in
    let both = same_fronts m.body n.body (0xE7 ∷ ends) (0xE7 ∷ others) size tails in
    record {
      message = same_message m n label both.0;
      rest = ap (λ l. drop 1 l) both.1;
    }

-- ---- a stream holds one list of messages

unfinished_is_no_stray : (b : ℕ) (bytes : List ℕ) → IsUnfinished (b ∷ bytes) → IsStray (b ∷ bytes) → ⊥
unfinished_is_no_stray b bytes u stray = stray u.message u.more [] u.is_message (u.whole ∙ sym (append-nil (message_bytes u.message)))

unfinished_is_not_whole : (bytes tail : List ℕ) (m : Message) → IsUnfinished bytes → bytes ≡ message_bytes m ++ tail → ⊥
unfinished_is_not_whole bytes tail m u e =
    let all : message_bytes m ++ (tail ++ u.more) ≡ message_bytes u.message ++ [] =
    sym (append_assoc (message_bytes m) tail u.more) ∙ ap (λ l. l ++ u.more) (sym e) ∙ u.whole ∙ sym (append-nil (message_bytes u.message)) in
    let none : tail ++ u.more ≡ [] = (one_message m u.message (tail ++ u.more) [] all).rest in
    let size : length tail + length u.more ≡ 0 = sym (length-append tail u.more) ∙ ap (λ (l : List ℕ). length l) none in
    absurd (omega (arith, size, u.lacks))

cut_once : (ps qs : List Piece) (rest other : List ℕ) → stream_of ps ++ rest ≡ stream_of qs ++ other → AreCut ps rest → AreCut qs other → IsUnfinished rest → IsUnfinished other → messages_of ps ≡ messages_of qs
cut_once [] [] rest other e cut cut' un un' = refl
cut_once [] (Rubbish b ∷ qs) rest other e cut cut' un un' = absurd (unfinished_is_no_stray b (stream_of qs ++ other) (subst IsUnfinished e un) cut'.0)
cut_once [] (Said n ∷ qs) rest other e cut cut' un un' = absurd (unfinished_is_not_whole rest (stream_of qs ++ other) n un (e ∙ append_assoc (message_bytes n) (stream_of qs) other))
cut_once (Rubbish a ∷ ps) [] rest other e cut cut' un un' = absurd (unfinished_is_no_stray a (stream_of ps ++ rest) (subst IsUnfinished (sym e) un') cut.0)
cut_once (Rubbish a ∷ ps) (Rubbish b ∷ qs) rest other e cut cut' un un' = cut_once ps qs rest other (ap (λ l. drop 1 l) e) cut.1 cut'.1 un un'
cut_once (Rubbish a ∷ ps) (Said n ∷ qs) rest other e cut cut' un un' =
    absurd (cut.0 n [] (stream_of qs ++ other) cut'.0 (append-nil (a ∷ stream_of ps ++ rest) ∙ e ∙ append_assoc (message_bytes n) (stream_of qs) other))
cut_once (Said m ∷ ps) [] rest other e cut cut' un un' = absurd (unfinished_is_not_whole other (stream_of ps ++ rest) m un' (sym e ∙ append_assoc (message_bytes m) (stream_of ps) rest))
cut_once (Said m ∷ ps) (Rubbish b ∷ qs) rest other e cut cut' un un' =
    absurd (cut'.0 m [] (stream_of ps ++ rest) cut.0 (append-nil (b ∷ stream_of qs ++ other) ∙ sym e ∙ append_assoc (message_bytes m) (stream_of ps) rest))
cut_once (Said m ∷ ps) (Said n ∷ qs) rest other e cut cut' un un' =
    let front = one_message m n (stream_of ps ++ rest) (stream_of qs ++ other)
    (sym (append_assoc (message_bytes m) (stream_of ps) rest) ∙ e ∙ append_assoc (message_bytes n) (stream_of qs) other) in
    let later : messages_of ps ≡ messages_of qs = cut_once ps qs rest other front.rest cut.1 cut'.1 un un' in
    ap (λ x. x ∷ messages_of ps) front.message ∙ ap (λ (l : List Message). n ∷ l) later

pub one_list : (stream : List ℕ) (messages others : List Message) → Holds stream messages → Holds stream others → messages ≡ others
one_list stream messages others h k =
    h.begins.said
    ∙ cut_once h.begins.pieces k.begins.pieces h.rest k.rest (sym h.begins.whole ∙ k.begins.whole) h.begins.cut k.begins.cut h.unfinished k.unfinished
    ∙ sym k.begins.said

-- ---- written messages are read back

said_all : List Message → List Piece
said_all [] = []
said_all (m ∷ ms) = Said m ∷ said_all ms

stream_of-said_all : (ms : List Message) → stream_of (said_all ms) ≡ bytes_of ms
unfolding said_all
stream_of-said_all [] = refl
stream_of-said_all (m ∷ ms) = ap (λ l. message_bytes m ++ l) (stream_of-said_all ms)

messages_of-said_all : (ms : List Message) → ms ≡ messages_of (said_all ms)
unfolding said_all
messages_of-said_all [] = refl
messages_of-said_all (m ∷ ms) = ap (λ l. m ∷ l) (messages_of-said_all ms)

AreCut-said_all : (ms : List Message) → All IsMessage ms → AreCut (said_all ms) []
unfolding said_all
AreCut-said_all [] all = tt
AreCut-said_all (m ∷ ms) all = (all 0 m (omega arith), AreCut-said_all ms (λ k d h. all (suc k) d (omega (arith, h))))

pub read_back : (ms : List Message) → All IsMessage ms → Holds (bytes_of ms) ms
read_back ms all = record {
  rest = [];
  begins = record {
    pieces = said_all ms;
    whole = sym (stream_of-said_all ms) ∙ sym (append-nil (stream_of (said_all ms)));
    cut = AreCut-said_all ms all;
    said = messages_of-said_all ms;
  };
  unfinished = unfinished_none;
}
