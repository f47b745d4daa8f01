-- The data that words say have as many slots as their fields.
use Rattle.std.proofs.Common.{◌≡◌, ℕ, ◌+◌, ◌-◌, ◌/◌, ◌%◌, ◌≤◌, Bool, true, false, not, cond, leb, ltb, List, [], ◌∷◌, ◌++◌, ◌&&◌, ◌==◌, length, take, drop, get_or, Option, Some, None, refl, subst, arith}
use Rattle.std.specs.Prelude.{Result, Ok, Err}
use Rattle.std.specs.Char.{is_ascii_alphabetic}
use Rattle.std.specs.Int.{w16, to_be_bytes}
use Rattle.std.specs.List.{list_all}
use Rattle.std.specs.Option.{option_map_or}
use Rattle.std.proofs.lemmas.List.{length-append}
use Rattle.std.proofs.lemmas.Bool.{leb-true, eqb-true}
use Rattle.std.proofs.lemmas.Bool.Decides.{nat_tests}
use Rattle.rdm_frame.specs.Digits.{within}
use Rattle.rdm_frame.specs.DigitReading.{number_in}
use Rattle.rdm_profile.specs.declared.profile.fields.Width.{Width}
use Rattle.rdm_profile.specs.declared.profile.fields.Width.TheVariants.{One, Two, Four}
use Rattle.rdm_profile.specs.Fields.{width_of, reach_of}
use Rattle.rdm_entry.specs.declared.field.Field.{Field}
use Rattle.rdm_entry.specs.declared.field.Field.TheVariants as fields
use Rattle.rdm_entry.specs.declared.error.Wrong.{Wrong}
use Rattle.rdm_entry.specs.declared.error.Wrong.TheVariants as wrong
use Rattle.rdm_entry.specs.declared.error.EntryError.{EntryError}
use Rattle.rdm_entry.specs.Entries.{at, behind, with_word, entered, data_in}
use Rattle.rdm_entry.specs.Numerals.{numeral_in, is_unclear, has_mark}
use Rattle.rdm_entry.specs.Slots.{least_of, most_of, least_slots, most_slots, CanHave}
use Rattle.rdm_entry.specs.Words.{slots_of, ranged, ranged_or, decimal_said, number_named, number_said, negative, positive, signed_said, identifier_said, pin_said, text_said, text_in, language_said, said}

-- what is said, if anything is, has so many slots at least and at most
abbrev Has : {E : Type 0} → Result (List ℕ) E → ℕ → ℕ → Type 0
Has (Ok slots) low high = (low ≤ length slots) × (length slots ≤ high)
Has (Err e) low high = Unit {0}

has_cond : {E : Type 0} (b : Bool) (x y : Result (List ℕ) E) (low high : ℕ) → Has x low high → Has y low high → Has (cond b x y) low high
has_cond true x y low high p q = p
has_cond false x y low high p q = q

has_when : {E : Type 0} (b : Bool) (x y : Result (List ℕ) E) (low high : ℕ) → (b ≡ true → Has x low high) → Has y low high → Has (cond b x y) low high
has_when true x y low high p q = p refl
has_when false x y low high p q = q

has_option : {E : Type 0} (o : Option ℕ) (f : ℕ → Result (List ℕ) E) (none : Result (List ℕ) E) (low high : ℕ) → ((n : ℕ) → Has (f n) low high)
    → Has none low high → Has (option_map_or f o none) low high
has_option None f none low high p q = q
has_option (Some n) f none low high p q = p n

slots_have : (width : Width) (n : ℕ) → (width_of width ≤ length (slots_of width n)) × (length (slots_of width n) ≤ width_of width)
slots_have One n = (omega arith, omega arith)
slots_have Two n = (omega arith, omega arith)
slots_have Four n = (omega arith, omega arith)

module _ (width : Width) where
  ranged_has : (n : ℕ) → Has (ranged width n) (width_of width) (width_of width)
  unfolding ranged
  ranged_has n = has_cond (ltb n (reach_of width)) (Ok (slots_of width n)) (Err wrong.Range) (width_of width) (width_of width) (slots_have width n) tt

  ranged_or_has : (o : Option ℕ) → Has (ranged_or width o) (width_of width) (width_of width)
  ranged_or_has o = has_option o (λ n. ranged width n) (Err wrong.Number) (width_of width) (width_of width) ranged_has tt

  decimal_has : (word : List ℕ) (n : ℕ) → Has (decimal_said width word n) (width_of width) (width_of width)
  decimal_has word n = has_cond (is_unclear n word) (Err wrong.Unclear) (ranged width n) (width_of width) (width_of width) tt (ranged_has n)

  number_has : (named : Option ℕ) (word : List ℕ) → Has (number_said width named word) (width_of width) (width_of width)
  number_has named word =
      has_option (numeral_in 10 word) (λ n. decimal_said width word n) (ranged_or width (cond (has_mark word) (numeral_in 16 (drop 2 word)) named))
      (width_of width) (width_of width) (decimal_has word) (ranged_or_has (cond (has_mark word) (numeral_in 16 (drop 2 word)) named))

  negative_has : (n : ℕ) → Has (negative width n) (width_of width) (width_of width)
  negative_has n =
      has_cond (leb n (reach_of width / 2)) (ranged width ((reach_of width - n) % reach_of width)) (Err wrong.Range)
      (width_of width) (width_of width) (ranged_has ((reach_of width - n) % reach_of width)) tt

  positive_has : (word : List ℕ) (n : ℕ) → Has (positive width word n) (width_of width) (width_of width)
  positive_has word n =
      has_cond (is_unclear n word) (Err wrong.Unclear) (cond (ltb n (reach_of width / 2)) (ranged width n) (Err wrong.Range))
      (width_of width) (width_of width) tt
      (has_cond (ltb n (reach_of width / 2)) (ranged width n) (Err wrong.Range) (width_of width) (width_of width) (ranged_has n) tt)

  signed_has : (word : List ℕ) → Has (signed_said width word) (width_of width) (width_of width)
  signed_has word =
      has_cond (get_or word 0 0 == 45) (option_map_or (λ n. negative width n) (numeral_in 10 (drop 1 word)) (Err wrong.Number))
      (option_map_or (λ n. positive width word n) (numeral_in 10 word)
      (cond (has_mark word) (ranged_or width (numeral_in 16 (drop 2 word))) (Err wrong.Number)))
      (width_of width) (width_of width)
      (has_option (numeral_in 10 (drop 1 word)) (λ n. negative width n) (Err wrong.Number) (width_of width) (width_of width) negative_has tt)
      (has_option (numeral_in 10 word) (λ n. positive width word n) (cond (has_mark word) (ranged_or width (numeral_in 16 (drop 2 word))) (Err wrong.Number))
      (width_of width) (width_of width) (positive_has word)
      (has_cond (has_mark word) (ranged_or width (numeral_in 16 (drop 2 word))) (Err wrong.Number) (width_of width) (width_of width)
      (ranged_or_has (numeral_in 16 (drop 2 word))) tt))

identifier_has : (word : List ℕ) → Has (identifier_said word) 2 2
identifier_has word =
    has_option (number_in w16 (cond (has_mark word) (drop 2 word) word)) (λ n. Ok (to_be_bytes w16 n)) (Err wrong.Identifier) 2 2 (slots_have Two) tt

pin_has : (word : List ℕ) → Has (pin_said word) 2 2
pin_has word =
    has_cond (leb (length word) 4) (option_map_or (λ n. ranged Two n) (numeral_in 10 word) (Err wrong.Pin)) (Err wrong.Pin) 2 2
    (has_option (numeral_in 10 word) (λ n. ranged Two n) (Err wrong.Pin) 2 2 (ranged_has Two) tt) tt

text_has : (most : ℕ) (text : List ℕ) → Has (text_said most text) 0 most
text_has most text =
    has_cond (not (list_all (λ b. within 0x20 b 0x7E) text)) (Err wrong.Unprintable) (cond (leb (length text) most) (Ok text) (Err wrong.Long)) 0 most tt
    (has_when (leb (length text) most) (Ok text) (Err wrong.Long) 0 most (λ e. (omega arith, leb-true _ _ e)) tt)

and_left : (x y : Bool) → (x && y) ≡ true → x ≡ true
and_left true y e = refl
and_left false y e = e

two : (n : ℕ) (b : Bool) → ((n == 2) && b) ≡ true → (2 ≤ n) × (n ≤ 2)
two n b e = (omega (arith, eqb-true n 2 (and_left (n == 2) b e)), omega (arith, eqb-true n 2 (and_left (n == 2) b e)))

language_has : (word : List ℕ) → Has (language_said word) 2 2
language_has word =
    has_when ((length word == 2) && list_all (λ b. is_ascii_alphabetic b) word) (Ok word) (Err wrong.Language) 2 2
    (two (length word) (list_all (λ b. is_ascii_alphabetic b) word)) tt

said_has : (field : Field) (word : List ℕ) → Has (said field word) (least_of field) (most_of field)
unfolding said
said_has (fields.Number width) word = number_has width None word
said_has (fields.Named width names) word = number_has width (number_named names word) word
said_has (fields.Signed width) word = signed_has width word
said_has fields.Identifier word = identifier_has word
said_has fields.Pin word = pin_has word
said_has (fields.Text most) word = text_has most (text_in word)
said_has fields.Language word = language_has word

behind_has : (front : List ℕ) (r : Result (List ℕ) EntryError) (a b c d : ℕ) → (a ≤ length front) × (length front ≤ b) → Has r c d
    → Has (behind front r) (a + c) (b + d)
behind_has front (Ok more) a b c d p q = (omega (arith, length-append front more, p.0, q.0), omega (arith, length-append front more, p.1, q.1))
behind_has front (Err e) a b c d p q = tt

word_has : (index room : ℕ) (r : Result (List ℕ) Wrong) (rest : ℕ → Result (List ℕ) EntryError) (a b c d : ℕ) → Has r a b
    → ((left : ℕ) → Has (rest left) c d) → Has (with_word index room r rest) (a + c) (b + d)
word_has index room (Err e) rest a b c d p q = tt
word_has index room (Ok slots) rest a b c d p q =
    has_cond (ltb room (length slots)) (at index wrong.NoRoom) (behind slots (rest (room - length slots))) (a + c) (b + d) tt
    (behind_has slots (rest (room - length slots)) a b c d p (q (room - length slots)))

entered_has : (index room : ℕ) (fs : List Field) (words : List (List ℕ)) → Has (entered index room fs words) (least_slots fs) (most_slots fs)
entered_has index room [] [] = (omega arith, omega arith)
entered_has index room [] (word ∷ words) = tt
entered_has index room (field ∷ fs) [] = tt
entered_has index room (field ∷ fs) (word ∷ words) =
    word_has index room (said field word) (λ left. entered (index + 1) left fs words) (least_of field) (most_of field) (least_slots fs) (most_slots fs)
    (said_has field word) (λ left. entered_has (index + 1) left fs words)

pub data_has : (fs : List Field) → (words : List (List ℕ)) → (slots : List ℕ) → data_in fs words ≡ Ok slots → CanHave fs (length slots)
unfolding data_in
data_has fs words slots e = subst (λ (r : Result (List ℕ) EntryError). Has r (least_slots fs) (most_slots fs)) e (entered_has 0 231 fs words)
