-- Decimal numbers are read exactly from the words that write them.
use Rattle.std.proofs.Common.{◌≡◌, ◌≢◌, ℕ, ◌<◌, ◌≤◌, ◌^◌, Bool, true, false, cond, leb, ltb, List, [], ◌∷◌, ◌&&◌, length, get_or, Some, None, refl, sym, ap, subst, ◌∙◌, arith}
use Rattle.std.specs.Str.{all_ascii_digits, IsUtf8}
use Rattle.std.specs.Str.Parse.{digits_value, ParsesUnsigned}
use Rattle.std.specs.Prelude.{Result, Ok, Err}
use Rattle.std.specs.Result.{result_ok}
use Rattle.std.proofs.lemmas.Str.{IsUtf8-from_ascii}
use Rattle.std.proofs.lemmas.Fmt.{IsAscii-from_digits}
use Rattle.std.proofs.lemmas.Bool.Decides.{nat_tests}
use Rattle.std.proofs.lemmas.Bool.{leb-true, ltb-true, le-leb}
use Rattle.std.proofs.lemmas.Option.{option_and_then_some, cond_some}
use Rattle.rdm_script.specs.Decimals.{SpellsDecimal, decimal_in, number_up_to}
use Rattle.std.proofs.lemmas.Str.Parse.{IsNumeralModel, numerals_by_value, tells_all_ascii_digits, digits_value_short, parse_plain}

abbrev IsDigits : List ℕ → Type 0
IsDigits ds = all_ascii_digits ds ≡ true

own : IsNumeralModel IsDigits (digits_value 10)
own = numerals_by_value IsDigits tells_all_ascii_digits

no_digits : (x y z : Bool) → z ≡ false → (x && (y && z)) ≡ false
no_digits false y z h = refl
no_digits true false z h = refl
no_digits true true z h = h

left_out : (b : Bool) (n : ℕ) → b ≡ false → None ≡ cond b (Some n) None
left_out b n h = rw h refl

pub too_long : (word : List ℕ) → 10 < length word → None ≡ decimal_in word
unfolding decimal_in
too_long word long = let false_here : leb (length word) 10 ≡ false = grind (arith, nat_tests) in rw false_here refl

not_digits : (word : List ℕ) → all_ascii_digits word ≡ false → None ≡ decimal_in word
unfolding decimal_in
not_digits word h = left_out _ (digits_value 10 word) (no_digits (leb (length word) 10) (ltb 0 (length word)) (all_ascii_digits word) h)

not_true : (b : Bool) → (b ≡ true → ⊥) → b ≡ false
not_true true h = absurd (h refl)
not_true false h = refl

pub signed : (word : List ℕ) → get_or word 0 0 ≡ 43 → None ≡ decimal_in word
signed [] h = absurd (omega arith)
signed (c ∷ cs) h = not_digits (c ∷ cs) (rw h refl)

digits_are_text : (word : List ℕ) → all_ascii_digits word ≡ true → IsUtf8 word
digits_are_text word h = IsUtf8-from_ascii word (IsAscii-from_digits word (own.to word h))

pub not_text : (word : List ℕ) → (IsUtf8 word → ⊥) → None ≡ decimal_in word
not_text word h = not_digits word (not_true (all_ascii_digits word) (λ e. h (digits_are_text word e)))

at_ok : (word : List ℕ) (n : ℕ) → length word ≤ 10 → all_ascii_digits word ≡ true → 0 < length word → n ≡ digits_value 10 word → Some n ≡ decimal_in word
unfolding decimal_in
at_ok word n few all some same =
    let le : leb (length word) 10 ≡ true = grind (arith, nat_tests) in
    let lt : ltb 0 (length word) ≡ true = grind (arith, nat_tests) in
    rw (le, lt, all, same) refl

fits : (word : List ℕ) → length word ≤ 10 → all_ascii_digits word ≡ true → digits_value 10 word < 2 ^ 64
fits word few all = omega (arith, digits_value_short own word 10 all few)

nothing_in_nothing : None ≡ decimal_in []
unfolding decimal_in
nothing_in_nothing = refl

at_err : (word : List ℕ) → length word ≤ 10 → (IsDigits word × (0 < length word) × (digits_value 10 word < 2 ^ 64) → ⊥) → None ≡ decimal_in word
at_err [] few h = nothing_in_nothing
at_err (c ∷ cs) few h = not_digits (c ∷ cs) (not_true (all_ascii_digits (c ∷ cs)) (λ all. h (all, omega arith, fits (c ∷ cs) few all)))

pub parsed : {E : Type 0} (word : List ℕ) (r : Result ℕ E) → length word ≤ 10 → get_or word 0 0 ≢ 43 → ParsesUnsigned 64 10 word r → result_ok r ≡ decimal_in word
parsed {E = E} word (Ok n) few plain h = let p = parse_plain own {E = E} 64 word (Ok n) h plain in at_ok word n few p.0.0 p.0.1 p.1
parsed {E = E} word (Err e) few plain h = at_err word few (parse_plain own {E = E} 64 word (Err e) h plain)

pub empty : (word : List ℕ) → length word ≡ 0 → None ≡ decimal_in word
empty [] h = nothing_in_nothing
empty (c ∷ cs) h = absurd (omega arith)

-- ---- what a word writes

both : (x y : Bool) → (x && y) ≡ true → (x ≡ true) × (y ≡ true)
both true y h = (refl, h)
both false y h = absurd cc

pub decimal_read : (word : List ℕ) (n : ℕ) → decimal_in word ≡ Some n → SpellsDecimal word n
unfolding decimal_in
decimal_read word n e =
    let g = cond_some (leb (length word) 10 && (ltb 0 (length word) && all_ascii_digits word)) (digits_value 10 word) n e in
    let parts = both (leb (length word) 10) (ltb 0 (length word) && all_ascii_digits word) g.0 in
    let rest = both (ltb 0 (length word)) (all_ascii_digits word) parts.1 in
    record { digits = (ltb-true _ _ rest.0, own.to word rest.1); at_most_ten = leb-true _ _ parts.0; value = g.1 }

pub decimal_again : (word : List ℕ) (n : ℕ) → SpellsDecimal word n → decimal_in word ≡ Some n
decimal_again word n s = sym (at_ok word n s.at_most_ten (own.from word s.digits.1) s.digits.0 (sym s.value))

pub number_read : (most : ℕ) (word : List ℕ) (n : ℕ) → number_up_to most word ≡ Some n → SpellsDecimal word n × (n ≤ most)
unfolding number_up_to
number_read most word n e =
    option_and_then_some (λ (m : ℕ). cond (leb m most) (Some m) None) (decimal_in word) n e (λ m is_m rest.
    let g = cond_some (leb m most) m n rest in
    (decimal_read word n (is_m ∙ ap (λ (k : ℕ). Some k) g.1), subst (λ (k : ℕ). k ≤ most) g.1 (leb-true _ _ g.0)))

pub number_again : (most : ℕ) (word : List ℕ) (n : ℕ) → SpellsDecimal word n → n ≤ most → number_up_to most word ≡ Some n
unfolding number_up_to
number_again most word n s le = rw (decimal_again word n s, le-leb n most le) refl
