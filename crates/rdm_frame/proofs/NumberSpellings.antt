-- Numbers and UIDs are read exactly from the texts that spell them.
use Rattle.std.proofs.Common.{◌≡◌, ℕ, zero, suc, ◌*◌, ◌/◌, ◌%◌, ◌^◌, ◌<◌, Bool, true, false, cond, eqb, List, [], ◌∷◌, ◌++◌, length, get_or, take, drop, map, Option, Some, None, ◌↔◌, refl, sym, ap, subst, ◌∙◌, arith}
use Rattle.std.specs.Prelude.{option_map}
use Rattle.std.specs.List.{AllByRecursion}
use Rattle.std.specs.Int.{w16, w32, to_be_bytes, from_be_bytes}
use Rattle.std.proofs.Math.Seq.{drop-cons}
use Rattle.std.proofs.lemmas.Bool.{eqb-true}
use Rattle.std.proofs.lemmas.Bool.Decides.{nat_tests}
use Rattle.std.proofs.lemmas.Option.{option_and_then_some, same_Some, cond_some}
use Rattle.std.proofs.lemmas.List.{take_at, take-append-drop, take-map, drop-map, map-append, get_or-map, length-map, length-drop}
use Rattle.std.proofs.lemmas.List.Concat.{flat_map-cons}
use Rattle.std.proofs.lemmas.Nat.{be_bytes_2, be_bytes_4, from_be_bytes-to_be_bytes_2, from_be_bytes-to_be_bytes_4}
use Rattle.rdm_frame.specs.declared.uid.Uid.{Uid}
use Rattle.rdm_frame.specs.FrameText.{IsUid}
use Rattle.rdm_frame.specs.Digits.{digit, digits, upper, SpellsBytes, SpellsNumber}
use Rattle.rdm_frame.specs.DigitReading.{◌>>=◌, bytes_in, number_in, uid_in}
use Rattle.rdm_frame.specs.UidText.{uid_text, SpellsUid}
use Rattle.rdm_frame.proofs.Spellings.{bytes_read, bytes_again}

abbrev IsByte : ℕ → Type 0
IsByte byte = byte < 256

byte_at : (bytes : List ℕ) → AllByRecursion IsByte bytes → (i : ℕ) → get_or bytes i 0 < 256
byte_at [] fits i = omega arith
byte_at (b ∷ bs) fits zero = fits.0
byte_at (b ∷ bs) fits (suc i) = byte_at bs fits.1 i

length-digits : (bytes : List ℕ) → length (digits bytes) ≡ 2 * length bytes
length-digits [] = refl
length-digits (b ∷ bs) = ap length (flat_map-cons (λ (byte : ℕ). digit (byte / 16) ∷ digit (byte % 16) ∷ []) b bs) ∙ (let rest : length (digits bs) ≡ 2 * length bs = length-digits bs in omega (arith, rest))

-- a word has two digits for each byte that it spells
pub long : (text bytes : List ℕ) → SpellsBytes text bytes → length text ≡ 2 * length bytes
long text bytes s = let kept : length (map upper text) ≡ length text = rw length-map refl in sym kept ∙ ap length s.printed ∙ length-digits bytes

-- ---- numbers

mapped : (f : List ℕ → ℕ) (o : Option (List ℕ)) (n : ℕ) → option_map f o ≡ Some n → (bytes : List ℕ) × (o ≡ Some bytes) × (f bytes ≡ n)
mapped f None n h = absurd cc
mapped f (Some bytes) n h = (bytes, refl, same_Some (f bytes) n h)

guarded : {A : Type 0} (b : Bool) (o : Option A) (z : A) → cond b o None ≡ Some z → (b ≡ true) × (o ≡ Some z)
guarded true o z h = (refl, h)
guarded false o z h = absurd cc

pub word_read : (text : List ℕ) (n : ℕ) → number_in w16 text ≡ Some n → SpellsNumber w16 text n
unfolding number_in
word_read text n h =
    let g = guarded (eqb (length text) 4) (option_map (from_be_bytes w16) (bytes_in text)) n h in
    let p = mapped (from_be_bytes w16) (bytes_in text) n g.1 in
    let s = bytes_read text p.0 p.1 in
    let two : length p.0 ≡ 2 = omega (arith, long text p.0 s, eqb-true _ _ g.0) in
    let same : to_be_bytes w16 n ≡ p.0 = be_bytes_2 p.0 n two (byte_at p.0 s.fits) (sym p.2) in
    let small : n < 256 ^ 2 = omega (arith, p.2, byte_at p.0 s.fits 0, byte_at p.0 s.fits 1) in
    (small, subst (λ (bytes : List ℕ). SpellsBytes text bytes) (sym same) s)

pub word_again : (text : List ℕ) (n : ℕ) → SpellsNumber w16 text n → number_in w16 text ≡ Some n
unfolding number_in
word_again text n s =
    let four : length text ≡ 4 = long text (to_be_bytes w16 n) s.1 in
    rw (four, bytes_again text (to_be_bytes w16 n) s.1) (ap (λ (k : ℕ). Some k) (from_be_bytes-to_be_bytes_2 n s.0))

pub long_read : (text : List ℕ) (n : ℕ) → number_in w32 text ≡ Some n → SpellsNumber w32 text n
unfolding number_in
long_read text n h =
    let g = guarded (eqb (length text) 8) (option_map (from_be_bytes w32) (bytes_in text)) n h in
    let p = mapped (from_be_bytes w32) (bytes_in text) n g.1 in
    let s = bytes_read text p.0 p.1 in
    let four : length p.0 ≡ 4 = omega (arith, long text p.0 s, eqb-true _ _ g.0) in
    let same : to_be_bytes w32 n ≡ p.0 = be_bytes_4 p.0 n four (byte_at p.0 s.fits) (sym p.2) in
    let small : n < 256 ^ 4 = omega (arith, p.2, byte_at p.0 s.fits 0, byte_at p.0 s.fits 1, byte_at p.0 s.fits 2, byte_at p.0 s.fits 3) in
    (small, subst (λ (bytes : List ℕ). SpellsBytes text bytes) (sym same) s)

pub long_again : (text : List ℕ) (n : ℕ) → SpellsNumber w32 text n → number_in w32 text ≡ Some n
unfolding number_in
long_again text n s =
    let eight : length text ≡ 8 = long text (to_be_bytes w32 n) s.1 in
    rw (eight, bytes_again text (to_be_bytes w32 n) s.1) (ap (λ (k : ℕ). Some k) (from_be_bytes-to_be_bytes_4 n s.0))

-- ---- UIDs

uid_read : (text : List ℕ) (u : Uid) → uid_in text ≡ Some u → SpellsUid text u
unfolding uid_in
uid_read text u e =
    option_and_then_some (λ maker. number_in w32 (drop 5 text) >>= λ device. cond (eqb (get_or text 4 0) 58) (Some (record { maker = maker; device = device })) None) (number_in w16 (take 4 text)) u e (λ maker is_maker rest.
    option_and_then_some (λ device. cond (eqb (get_or text 4 0) 58) (Some (record { maker = maker; device = device })) None) (number_in w32 (drop 5 text)) u rest (λ device is_device made.
    let one : Uid = record { maker = maker; device = device } in
    let g = cond_some (eqb (get_or text 4 0) 58) one u made in
    let first = word_read (take 4 text) maker is_maker in
    let second = long_read (drop 5 text) device is_device in
    let eight : length (drop 5 text) ≡ 8 = long (drop 5 text) (to_be_bytes w32 device) second.1 in
    let lt : 4 < length text = omega (arith, length-drop 5 text) in
    let colon : get_or text 4 0 ≡ 58 = eqb-true _ _ g.0 in
    let parts : text ≡ take 4 text ++ 58 ∷ drop 5 text = sym (take-append-drop 4 text) ∙ ap (λ (xs : List ℕ). take 4 text ++ xs) (drop-cons text 4 0 lt ∙ ap (λ (c : ℕ). c ∷ drop 5 text) colon) in
    let printed : map upper text ≡ uid_text one = ap (map upper) parts ∙ map-append upper (take 4 text) (58 ∷ drop 5 text) ∙ rw (first.1.printed, second.1.printed) refl in
    subst (λ (v : Uid). SpellsUid text v) g.1 (record { fits = record { maker = first.0; device = second.0 }; printed = printed })))

colon_upper : (b : ℕ) → upper b ≡ 58 → b ≡ 58
colon_upper b h = grind (arith, nat_tests)

word_bytes : (n : ℕ) → AllByRecursion IsByte (to_be_bytes w16 n)
word_bytes n = (omega arith, (omega arith, tt))

long_bytes : (n : ℕ) → AllByRecursion IsByte (to_be_bytes w32 n)
long_bytes n = (omega arith, (omega arith, (omega arith, (omega arith, tt))))

uid_again : (text : List ℕ) (u : Uid) → SpellsUid text u → uid_in text ≡ Some u
unfolding uid_in
uid_again text u s =
    let kept : length (map upper text) ≡ length text = rw length-map refl in
    let thirteen : length text ≡ 13 = sym kept ∙ ap length s.printed in
    let four : length (digits (to_be_bytes w16 u.maker)) ≡ 4 = length-digits (to_be_bytes w16 u.maker) in
    let front : map upper (take 4 text) ≡ digits (to_be_bytes w16 u.maker) = sym (take-map upper 4 text) ∙ ap (take 4) s.printed ∙ take_at (digits (to_be_bytes w16 u.maker)) (58 ∷ digits (to_be_bytes w32 u.device)) 4 four in
    let back : map upper (drop 5 text) ≡ digits (to_be_bytes w32 u.device) = sym (drop-map upper 5 text) ∙ ap (drop 5) s.printed in
    let at_four : upper (get_or text 4 0) ≡ 58 = sym (get_or-map upper text 4 0 0 (omega (arith, thirteen))) ∙ ap (λ (xs : List ℕ). get_or xs 4 0) s.printed in
    let colon = colon_upper (get_or text 4 0) at_four in
    let maker = word_again (take 4 text) u.maker (s.fits.maker, record { printed = front; fits = word_bytes u.maker }) in
    let device = long_again (drop 5 text) u.device (s.fits.device, record { printed = back; fits = long_bytes u.device }) in
    rw (maker, device, colon) refl

pub uid_spelled : (text : List ℕ) (u : Uid) → (uid_in text ≡ Some u) ↔ SpellsUid text u
uid_spelled text u = (uid_read text u, uid_again text u)

-- ---- what is written

upper_digit : (n : ℕ) → n < 16 → upper (digit n) ≡ digit n
upper_digit n h = grind (arith, nat_tests)

upper_digits : (bytes : List ℕ) → AllByRecursion IsByte bytes → map upper (digits bytes) ≡ digits bytes
upper_digits [] fits = refl
upper_digits (b ∷ bs) fits =
    let cons = flat_map-cons (λ (byte : ℕ). digit (byte / 16) ∷ digit (byte % 16) ∷ []) b bs in
    ap (map upper) cons ∙ rw (upper_digit (b / 16) (omega (arith, fits.0)), upper_digit (b % 16) (omega arith), upper_digits bs fits.1) refl ∙ sym cons

joined : (a a' b b' : List ℕ) → a ≡ a' → b ≡ b' → a ++ 58 ∷ b ≡ a' ++ 58 ∷ b'
joined a a' b b' e f = rw (e, f) refl

pub uid_written : (u : Uid) → IsUid u → SpellsUid (uid_text u) u
uid_written u fits = record {
  fits = fits;
  printed = map-append upper (digits (to_be_bytes w16 u.maker)) (58 ∷ digits (to_be_bytes w32 u.device)) ∙ joined _ _ _ _ (upper_digits (to_be_bytes w16 u.maker) (word_bytes u.maker)) (upper_digits (to_be_bytes w32 u.device) (long_bytes u.device));
}
