-- Words of a document are read back.
use Rattle.std.specs.Prelude.{◌^◌, ◌&&◌, nat_lt, MatchOption, ok_or, ⊤, option_and_then}
use Rattle.std.proofs.Common.{◌≡◌, ℕ, ◌<◌, ◌==◌, sym, true≢false, Bool, true, false, cond, List, [], ◌∷◌, ◌++◌, length, Option, Some, None, Result, Ok, Err, drop, subst, refl, ap, ◌∙◌, arith}
use Rattle.std.proofs.lemmas.Bool.{eqb-true}
use Rattle.std.specs.List.{list_all}
use Rattle.std.specs.Result.{OkIff}
use Rattle.std.specs.Char.{digit_value}
use Rattle.std.specs.Str.Parse.{AllDigits, IsNumeral, ParsesUnsigned, digits_value, without_leading_plus}
use Rattle.std.proofs.lemmas.Bool.Decides.{nat_tests}
use Rattle.json.specs.Json.{Json}
use Rattle.json.specs.Find.{as_number}
use Rattle.rdm_survey.specs.Shown.{unshown}
use Rattle.rdm_compare.specs.Texts.{is_numeral, number_in, whole_number}

-- a byte that is no backslash
pub as_it_is : (a : ℕ) (rest : List ℕ) → (a == 0x5C) ≡ false → unshown (a ∷ rest) ≡ a ∷ unshown rest
as_it_is a [] h = refl
as_it_is a (b ∷ []) h = rw h refl
as_it_is a (b ∷ c ∷ []) h = rw h refl
as_it_is a (b ∷ c ∷ d ∷ more) h = rw h refl

small : (a b : ℕ) → nat_lt a b ≡ true → a < b
small a b h = grind (arith, nat_tests)

large : (a b : ℕ) → nat_lt a b ≡ false → ¬ (a < b)
large a b h = grind (arith, nat_tests)

held : (c : ℕ) (ds : List ℕ) (b : Bool) → nat_lt (digit_value c) 10 ≡ b → (b && list_all (λ d. nat_lt (digit_value d) 10) ds) ≡ true
    → (list_all (λ d. nat_lt (digit_value d) 10) ds ≡ true → AllDigits 10 ds) → AllDigits 10 (c ∷ ds)
held c ds true e g rest = (small _ _ e, rest g)
held c ds false e g rest = absurd cc

plus_is_none : (c : ℕ) → c ≡ 43 → digit_value c < 10 → ⊥
plus_is_none c e h = let k : digit_value 43 < 10 = subst (λ (x : ℕ). digit_value x < 10) e h in omega arith

digits_hold : (ds : List ℕ) → list_all (λ d. nat_lt (digit_value d) 10) ds ≡ true → AllDigits 10 ds
digits_hold [] h = tt
digits_hold (c ∷ ds) h = held c ds (nat_lt (digit_value c) 10) refl h (λ g. digits_hold ds g)

told : (c : ℕ) (ds : List ℕ) (b : Bool) → nat_lt (digit_value c) 10 ≡ b → digit_value c < 10 → list_all (λ d. nat_lt (digit_value d) 10) ds ≡ true
    → (b && list_all (λ d. nat_lt (digit_value d) 10) ds) ≡ true
told c ds true e h rest = rest
told c ds false e h rest = absurd (large _ _ e h)

digits_told : (ds : List ℕ) → AllDigits 10 ds → list_all (λ d. nat_lt (digit_value d) 10) ds ≡ true
digits_told [] h = refl
digits_told (c ∷ ds) h = told c ds (nat_lt (digit_value c) 10) refl h.0 (digits_told ds h.1)

numeral_holds : (ds : List ℕ) → is_numeral ds ≡ true → IsNumeral 10 ds
numeral_holds [] h = absurd cc
numeral_holds (c ∷ ds) h = (omega arith, digits_hold (c ∷ ds) h)

pub numeral_told : (ds : List ℕ) → IsNumeral 10 ds → is_numeral ds ≡ true
numeral_told [] h = absurd (omega (arith, h.0))
numeral_told (c ∷ ds) h = digits_told (c ∷ ds) h.1

pub parsed : (s : List ℕ) (r : Option ℕ) → ParsesUnsigned 64 10 s (ok_or r s) → r ≡ number_in s
unfolding number_in
parsed s r h = by r (is_numeral (without_leading_plus s)) (nat_lt (digits_value 10 (without_leading_plus s)) (2 ^ 64)) refl refl h
  where
    by : (r : Option ℕ) (a b : Bool) → is_numeral (without_leading_plus s) ≡ a → nat_lt (digits_value 10 (without_leading_plus s)) (2 ^ 64) ≡ b
        → ParsesUnsigned 64 10 s (ok_or r s) → r ≡ cond (a && b) (Some (digits_value 10 (without_leading_plus s))) None
    by (Some n) true true e f h = ap (λ (x : ℕ). Some x) h.1
    by (Some n) true false e f h = absurd (large _ _ f h.0.1)
    by (Some n) false b e f h = absurd (true≢false (sym (numeral_told _ h.0.0) ∙ e))
    by None true true e f h = absurd (h (numeral_holds _ e, small _ _ f))
    by None true false e f h = refl
    by None false b e f h = refl

pub number_read : (o : Option (List ℕ)) (r : Option ℕ) → MatchOption o (r ≡ None) (λ s. ParsesUnsigned 64 10 s (ok_or r s)) → r ≡ option_and_then number_in o
number_read None r h = h
number_read (Some s) r h = parsed s r h

-- a numeral has no plus
pub after_plus : (ds : List ℕ) → IsNumeral 10 ds → without_leading_plus ds ≡ ds
after_plus [] h = refl
after_plus (c ∷ cs) h = by (c == 43) refl
  where
    by : (b : Bool) → (c == 43) ≡ b → drop (cond b 1 0) (c ∷ cs) ≡ c ∷ cs
    by true e = absurd (plus_is_none c (eqb-true c 43 e) h.1.0)
    by false e = refl
