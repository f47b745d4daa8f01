-- What a stream begins with, one part after another.
use Rattle.std.proofs.Common.{◌≡◌, ℕ, ◌+◌, ◌<◌, ◌≤◌, List, [], ◌∷◌, ◌++◌, length, drop, refl, sym, ap, subst, ◌∙◌, arith, append_assoc, append-nil, length-append}
use Rattle.std.proofs.Math.Seq.{drop-append_seam}
use Rattle.std.proofs.Math.ListN.{drop_of_length-le}
use Rattle.rdm_messages.specs.Framing.{Message, IsMessage, message_bytes, IsUnfinished, IsStray, Piece, Rubbish, Said, stream_of, messages_of, AreCut, Begins}
use Rattle.rdm_messages.proofs.Frames.{unfinished_none}

-- ---- pieces

stray_more : (xs more : List ℕ) → IsStray xs → IsStray (xs ++ more)
stray_more xs more stray m later rest is e = stray m (more ++ later) rest is (sym (append_assoc xs more later) ∙ e)

AreCut-more : (ps : List Piece) (rest more : List ℕ) → AreCut ps rest → AreCut ps (rest ++ more)
AreCut-more [] rest more cut = tt
AreCut-more (Rubbish b ∷ ps) rest more cut =
    (subst IsStray (append_assoc (b ∷ stream_of ps) rest more) (stray_more (b ∷ stream_of ps ++ rest) more cut.0), AreCut-more ps rest more cut.1)
AreCut-more (Said m ∷ ps) rest more cut = (cut.0, AreCut-more ps rest more cut.1)

stream_of-append : (ps qs : List Piece) → stream_of (ps ++ qs) ≡ stream_of ps ++ stream_of qs
stream_of-append [] qs = refl
stream_of-append (Rubbish b ∷ ps) qs = ap (λ (l : List ℕ). b ∷ l) (stream_of-append ps qs)
stream_of-append (Said m ∷ ps) qs = ap (λ l. message_bytes m ++ l) (stream_of-append ps qs) ∙ sym (append_assoc (message_bytes m) (stream_of ps) (stream_of qs))

streams_join : (ps qs : List Piece) (rest : List ℕ) → stream_of ps ++ (stream_of qs ++ rest) ≡ stream_of (ps ++ qs) ++ rest
streams_join ps qs rest = sym (append_assoc (stream_of ps) (stream_of qs) rest) ∙ ap (λ l. l ++ rest) (sym (stream_of-append ps qs))

messages_of-append : (ps qs : List Piece) → messages_of (ps ++ qs) ≡ messages_of ps ++ messages_of qs
messages_of-append [] qs = refl
messages_of-append (Rubbish b ∷ ps) qs = messages_of-append ps qs
messages_of-append (Said m ∷ ps) qs = ap (λ l. m ∷ l) (messages_of-append ps qs)

AreCut-append : (ps qs : List Piece) (rest : List ℕ) → AreCut ps (stream_of qs ++ rest) → AreCut qs rest → AreCut (ps ++ qs) rest
AreCut-append [] qs rest cut cut' = cut'
AreCut-append (Rubbish b ∷ ps) qs rest cut cut' =
    (subst (λ (l : List ℕ). IsStray (b ∷ l)) (streams_join ps qs rest) cut.0, AreCut-append ps qs rest cut.1 cut')
AreCut-append (Said m ∷ ps) qs rest cut cut' = (cut.0, AreCut-append ps qs rest cut.1 cut')

-- ---- beginnings

-- nothing of it is done with yet
pub begins_none : (stream : List ℕ) → Begins stream [] stream
begins_none stream = record { pieces = []; whole = refl; cut = tt; said = refl }

-- a stray byte is passed over
pub begins_stray : (stream : List ℕ) → 0 < length stream → IsStray stream → Begins stream [] (drop 1 stream)
begins_stray [] some stray = absurd (omega (arith, some))
begins_stray (b ∷ bytes) some stray = record { pieces = Rubbish b ∷ []; whole = refl; cut = (stray, tt); said = refl }

-- a message stands there
pub begins_said : (stream rest : List ℕ) (m : Message) → IsMessage m → stream ≡ message_bytes m ++ rest → Begins stream (m ∷ []) rest
begins_said stream rest m is whole = record {
  pieces = Said m ∷ [];
  whole = whole ∙ ap (λ l. l ++ rest) (sym (append-nil (message_bytes m)));
  cut = (is, tt);
  said = refl;
}

-- the rest of it begins with others
pub begins_then : (stream mid rest : List ℕ) (ms ns : List Message) → Begins stream ms mid → Begins mid ns rest → Begins stream (ms ++ ns) rest
begins_then stream mid rest ms ns one two = record {
  pieces = one.pieces ++ two.pieces;
  whole = one.whole ∙ ap (λ l. stream_of one.pieces ++ l) two.whole ∙ streams_join one.pieces two.pieces rest;
  cut = AreCut-append one.pieces two.pieces rest (subst (AreCut one.pieces) two.whole one.cut) two.cut;
  said = ap (λ (l : List Message). l ++ ns) one.said ∙ ap (λ (l : List Message). messages_of one.pieces ++ l) two.said ∙ sym (messages_of-append one.pieces two.pieces);
}

-- more comes behind it
pub begins_more : (stream rest more : List ℕ) (ms : List Message) → Begins stream ms rest → Begins (stream ++ more) ms (rest ++ more)
begins_more stream rest more ms one = record {
  pieces = one.pieces;
  whole = ap (λ l. l ++ more) one.whole ∙ append_assoc (stream_of one.pieces) rest more;
  cut = AreCut-more one.pieces rest more one.cut;
  said = one.said;
}

-- ---- lengths

pub length-message_bytes : (m : Message) → length (message_bytes m) ≡ length m.body + 5
length-message_bytes m = omega (arith, length-append m.body (0xE7 ∷ []))

-- what stands behind a message
pub rest_is : (bytes rest : List ℕ) (m : Message) → bytes ≡ message_bytes m ++ rest → rest ≡ drop (length m.body + 5) bytes
rest_is bytes rest m whole =
    sym (drop-append_seam (message_bytes m) rest) ∙ ap (λ n. drop n (message_bytes m ++ rest)) (length-message_bytes m) ∙ ap (λ l. drop (length m.body + 5) l) (sym whole)

pub reaches : (bytes rest : List ℕ) (m : Message) → bytes ≡ message_bytes m ++ rest → length m.body + 5 ≤ length bytes
reaches bytes rest m whole =
    let size : length bytes ≡ length (message_bytes m) + length rest = ap (λ (l : List ℕ). length l) whole ∙ length-append (message_bytes m) rest in
    omega (arith, size, length-message_bytes m)

-- when all bytes are done with
pub none_left : (bytes : List ℕ) (done : ℕ) → length bytes ≤ done → IsUnfinished (drop done bytes)
none_left bytes done all = subst IsUnfinished (sym (drop_of_length-le bytes all)) unfinished_none

-- what is held is less than a message
pub unfinished_short : (held : List ℕ) → IsUnfinished held → length held < 605
unfinished_short held u =
    let size : length held + length u.more ≡ length (message_bytes u.message) = sym (length-append held u.more) ∙ ap (λ (l : List ℕ). length l) u.whole in
    omega (arith, size, length-message_bytes u.message, u.lacks, u.is_message.size)
