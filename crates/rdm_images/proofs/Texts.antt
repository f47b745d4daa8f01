-- The text of an image is read back.
use Rattle.std.proofs.Common.{◌≡◌, ℕ, ◌+◌, ◌-◌, ◌*◌, ◌^◌, ◌<◌, ◌≤◌, List, [], ◌∷◌, ◌++◌, length, get_or, take, drop, refl, sym, ap, ◌∙◌, arith, sum, Some, length-append}
use Rattle.std.specs.Prelude.{zero, suc}
use Rattle.std.proofs.Math.Seq.{drop-cons, take-add}
use Rattle.std.proofs.lemmas.List.{length-take, length-drop, take_at}
use Rattle.std.proofs.lemmas.Nat.{be_bytes_2, be_bytes_4, from_be_bytes-to_be_bytes_2, from_be_bytes-to_be_bytes_4}
use Rattle.rdm_images.specs.declared.image.Image.{Image}
use Rattle.rdm_images.specs.declared.decoding.ImageError.{ImageError}
use Rattle.rdm_images.specs.declared.decoding.ImageError.TheVariants.{Cut, Altered, OfAnother}
use Rattle.std.specs.Int.{w16, w32, to_be_bytes}
use Rattle.std.proofs.lemmas.List.Sums.{sum_by-le}
use Rattle.std.proofs.lemmas.List.Elements.{All-from_get_or}
use Rattle.rdm_frame.specs.Reading.{word_at, long_at}
use Rattle.rdm_images.specs.ImageText.{image_text, header_text, fields_text, check_of, IsImage}
use Rattle.rdm_images.specs.Areas.{IsSound}
use Rattle.rdm_images.specs.Reading.{total, payload_at, saved_at, saved, said, held, image_of, PassesAll, IsFirstFault}
use Rattle.rdm_images.proofs.Parts.{AreBytes, bytes-take, bytes-drop}
use Rattle.rdm_images.proofs.Holding.{held_some}

pub sum_is_small : (xs : List ℕ) → AreBytes xs → sum xs ≤ length xs * 255
sum_is_small xs bytes = sum_by-le (λ x. x) 255 xs (All-from_get_or (λ x. x ≤ 255) xs 0 (λ i within. omega (arith, bytes i)))

fields_small : (key counter len : ℕ) → sum (fields_text key counter len) ≤ 2040
fields_small key counter len = omega arith

pub text_length : (key counter : ℕ) (payload : List ℕ) → length (image_text key counter payload) ≡ 12 + length payload
unfolding image_text
text_length key counter payload = omega arith

abbrev whole : ℕ → ℕ → List ℕ → List ℕ → List ℕ
whole key counter payload rest = (header_text key counter payload ++ payload) ++ rest

len_at : (key counter : ℕ) (payload rest : List ℕ) → IsImage key counter payload → word_at (whole key counter payload rest) 10 ≡ length payload
len_at key counter payload rest fits = from_be_bytes-to_be_bytes_2 (length payload) fits.short

counter_at : (key counter : ℕ) (payload rest : List ℕ) → IsImage key counter payload → word_at (whole key counter payload rest) 8 ≡ counter
counter_at key counter payload rest fits = from_be_bytes-to_be_bytes_2 counter fits.counter_fits

payload_is : (key counter : ℕ) (payload rest : List ℕ) → IsImage key counter payload → payload_at (whole key counter payload rest) ≡ payload
payload_is key counter payload rest fits =
    let e : take (word_at (whole key counter payload rest) 10) (payload ++ rest) ≡ take (length payload) (payload ++ rest) = ap (λ (n : ℕ). take n (payload ++ rest)) (len_at key counter payload rest fits) in
    e ∙ take_at payload rest (length payload) refl

total_is : (key counter : ℕ) (payload rest : List ℕ) → IsImage key counter payload → total (whole key counter payload rest) ≡ 2 ^ 32 - 1
total_is key counter payload rest fits =
    let check : long_at (whole key counter payload rest) 0 ≡ check_of key counter payload = from_be_bytes-to_be_bytes_4 (check_of key counter payload) (omega arith) in
    let fields : sum (take 8 (drop 4 (whole key counter payload rest))) ≡ sum (fields_text key counter (length payload)) = refl in
    let rest_sum : sum (payload_at (whole key counter payload rest)) ≡ sum payload = ap sum (payload_is key counter payload rest fits) in
    omega (arith, check, fields, rest_sum, fields_small key counter (length payload), sum_is_small payload fits.bytes, fits.short)

pub text_passes : (key counter : ℕ) (payload rest : List ℕ) → IsImage key counter payload → PassesAll key (image_text key counter payload ++ rest)
unfolding image_text
text_passes key counter payload rest fits =
    (((omega arith, omega (arith, len_at key counter payload rest fits, length-append payload rest)), total_is key counter payload rest fits), from_be_bytes-to_be_bytes_4 key fits.key_fits)

saved_same : (c d : ℕ) (p q : List ℕ) → c ≡ d → p ≡ q → saved c p ≡ saved d q
saved_same c d p q e f = rw (e, f) refl

pub text_saved : (key counter : ℕ) (payload rest : List ℕ) → IsImage key counter payload → saved_at (image_text key counter payload ++ rest) ≡ saved counter payload
unfolding image_text
text_saved key counter payload rest fits = saved_same _ _ _ _ (counter_at key counter payload rest fits) (payload_is key counter payload rest fits)

pub text_held : (key counter : ℕ) (payload rest : List ℕ) → IsImage key counter payload → held key (image_text key counter payload ++ rest) ≡ Some (saved counter payload)
text_held key counter payload rest fits =
    held_some key _ (text_passes key counter payload rest fits) ∙ ap Some (text_saved key counter payload rest fits)

pub text_sound : (key counter : ℕ) (payload rest : List ℕ) → IsImage key counter payload → IsSound (image_text key counter payload ++ rest)
text_sound key counter payload rest fits = λ _. omega (arith, (text_passes key counter payload rest fits).0.1)

abbrev image : ℕ → ℕ → Image
image c n = record { counter = c; length = n }

image_same : (c d m n : ℕ) → c ≡ d → m ≡ n → image c m ≡ image d n
image_same c d m n e f = rw (e, f) refl

pub image_again : (key counter : ℕ) (payload rest : List ℕ) → IsImage key counter payload → image_of (image_text key counter payload ++ rest) ≡ record { counter = counter; length = length payload }
unfolding image_text
image_again key counter payload rest fits = image_same _ _ _ _ (counter_at key counter payload rest fits) (len_at key counter payload rest fits)

pub not_faulty : (e : ImageError) (key : ℕ) (t : List ℕ) → PassesAll key t → IsFirstFault e key t → ⊥
not_faulty Cut key t ok h = h.1 ok.0.0
not_faulty Altered key t ok h = h.1 ok.0.1
not_faulty OfAnother key t ok h = h.1 ok.1

-- ---- bytes that pass the tests are the text of what they say

-- n elements from i on, one by one
abbrev items_from : ℕ → ℕ → List ℕ → List ℕ
items_from zero i t = []
items_from (suc n) i t = get_or t i 0 ∷ items_from n (suc i) t

items_from-take : (n i : ℕ) (t : List ℕ) → i + n ≤ length t → items_from n i t ≡ take n (drop i t)
items_from-take zero i t h = refl
items_from-take (suc n) i t h =
    let lt : i < length t = omega arith in
    let rest : items_from n (suc i) t ≡ take n (drop (suc i) t) = items_from-take n (suc i) t (omega arith) in
    ap (λ (xs : List ℕ). get_or t i 0 ∷ xs) rest ∙ ap (take (suc n)) (sym (drop-cons t i 0 lt))

word_again : (t : List ℕ) (i : ℕ) → AreBytes t → i + 2 ≤ length t → to_be_bytes w16 (word_at t i) ≡ items_from 2 i t
word_again t i fits h =
    be_bytes_2 (take 2 (drop i t)) (word_at t i) (omega (arith, length-take 2 (drop i t), length-drop i t)) (bytes-take 2 (drop i t) (bytes-drop i t fits)) refl ∙ sym (items_from-take 2 i t h)

long_again : (t : List ℕ) (i : ℕ) → AreBytes t → i + 4 ≤ length t → to_be_bytes w32 (long_at t i) ≡ items_from 4 i t
long_again t i fits h =
    be_bytes_4 (take 4 (drop i t)) (long_at t i) (omega (arith, length-take 4 (drop i t), length-drop i t)) (bytes-take 4 (drop i t) (bytes-drop i t fits)) refl ∙ sym (items_from-take 4 i t h)

three_same : (x x' y y' z z' : List ℕ) → x ≡ x' → y ≡ y' → z ≡ z' → x ++ y ++ z ≡ x' ++ y' ++ z'
three_same x x' y y' z z' e f g = rw (e, f, g) refl

two_same : (x x' y y' : List ℕ) → x ≡ x' → y ≡ y' → x ++ y ≡ x' ++ y'
two_same x x' y y' e f = rw (e, f) refl

len_again : (key : ℕ) (t : List ℕ) → PassesAll key t → length (payload_at t) ≡ word_at t 10
len_again key t ok = omega (arith, length-take (word_at t 10) (drop 12 t), length-drop 12 t, ok.0.0.0, ok.0.0.1)

fields_again : (key : ℕ) (t : List ℕ) → AreBytes t → PassesAll key t → fields_text key (word_at t 8) (length (payload_at t)) ≡ items_from 8 4 t
fields_again key t bytes ok =
    let long : 12 ≤ length t = ok.0.0.0 in
    three_same _ (items_from 4 4 t) _ (items_from 2 8 t) _ (items_from 2 10 t) (ap (to_be_bytes w32) (sym ok.1) ∙ long_again t 4 bytes (omega arith)) (word_again t 8 bytes (omega arith)) (ap (to_be_bytes w16) (len_again key t ok) ∙ word_again t 10 bytes (omega arith))

check_again : (key : ℕ) (t : List ℕ) → AreBytes t → PassesAll key t → check_of key (word_at t 8) (payload_at t) ≡ long_at t 0
check_again key t bytes ok =
    let long : 12 ≤ length t = ok.0.0.0 in
    let fields : sum (fields_text key (word_at t 8) (length (payload_at t))) ≡ sum (take 8 (drop 4 t)) = ap sum (fields_again key t bytes ok ∙ items_from-take 8 4 t (omega arith)) in
    omega (arith, fields, ok.0.1)

header_again : (key : ℕ) (t : List ℕ) → AreBytes t → PassesAll key t → header_text key (word_at t 8) (payload_at t) ≡ take 12 t
header_again key t bytes ok =
    let long : 12 ≤ length t = ok.0.0.0 in
    two_same _ (items_from 4 0 t) _ (items_from 8 4 t) (ap (to_be_bytes w32) (check_again key t bytes ok) ∙ long_again t 0 bytes (omega arith)) (fields_again key t bytes ok) ∙ items_from-take 12 0 t (omega arith)

pub text_again : (key : ℕ) (t : List ℕ) → AreBytes t → PassesAll key t → take (12 + word_at t 10) t ≡ image_text key (word_at t 8) (payload_at t)
unfolding image_text
text_again key t bytes ok =
    take-add 12 (word_at t 10) t ∙ ap (λ (xs : List ℕ). xs ++ payload_at t) (sym (header_again key t bytes ok))

pub text_len : (key counter : ℕ) (payload : List ℕ) → IsImage key counter payload → length (image_text key counter payload) ≡ 12 + word_at (image_text key counter payload) 10
unfolding image_text
text_len key counter payload fits = omega (arith, from_be_bytes-to_be_bytes_2 (length payload) fits.short)

pub said_held : (key : ℕ) (t : List ℕ) → PassesAll key t → said (held key t) ≡ Some (image_of t)
said_held key t ok = ap said (held_some key t ok) ∙ ap (λ (n : ℕ). Some (image (word_at t 8) n)) (len_again key t ok)

-- ---- the bytes of a text

pub bytes-append : (xs ys : List ℕ) → AreBytes xs → AreBytes ys → AreBytes (xs ++ ys)
bytes-append [] ys h g i = g i
bytes-append (x ∷ xs) ys h g zero = h 0
bytes-append (x ∷ xs) ys h g (suc i) = bytes-append xs ys (λ j. h (suc j)) g i

two_bytes : (n : ℕ) → AreBytes (to_be_bytes w16 n)
two_bytes n zero = omega arith
two_bytes n (suc zero) = omega arith
two_bytes n (suc (suc i)) = omega arith

four_bytes : (n : ℕ) → AreBytes (to_be_bytes w32 n)
four_bytes n zero = omega arith
four_bytes n (suc zero) = omega arith
four_bytes n (suc (suc zero)) = omega arith
four_bytes n (suc (suc (suc zero))) = omega arith
four_bytes n (suc (suc (suc (suc i)))) = omega arith

pub text_bytes : (key counter : ℕ) (payload rest : List ℕ) → IsImage key counter payload → AreBytes rest → AreBytes (image_text key counter payload ++ rest)
unfolding image_text
text_bytes key counter payload rest fits bytes =
    bytes-append (header_text key counter payload ++ payload) rest (bytes-append (header_text key counter payload) payload (bytes-append (to_be_bytes w32 (check_of key counter payload)) (fields_text key counter (length payload)) (four_bytes _) (bytes-append (to_be_bytes w32 key ++ to_be_bytes w16 counter) (to_be_bytes w16 (length payload)) (bytes-append (to_be_bytes w32 key) (to_be_bytes w16 counter) (four_bytes key) (two_bytes counter)) (two_bytes (length payload)))) fits.bytes) bytes

pub len_behind : (key counter : ℕ) (payload rest : List ℕ) → IsImage key counter payload → word_at (image_text key counter payload ++ rest) 10 ≡ length payload
unfolding image_text
len_behind key counter payload rest fits = len_at key counter payload rest fits
