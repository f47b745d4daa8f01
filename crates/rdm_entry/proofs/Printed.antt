-- What is printed of a number is read back, and what could be two numbers isn't read.
use Rattle.std.proofs.Common.{◌≡◌, ◌≢◌, ℕ, zero, suc, ◌<◌, ◌≤◌, ◌^◌, Bool, true, false, ltb, List, [], ◌∷◌, ◌==◌, length, get_or, Option, Some, None, refl, sym, rules, arith}
use Rattle.std.specs.Prelude.{Ok, Err}
use Rattle.std.specs.Fmt.{decimal}
use Rattle.std.specs.Str.Parse.{AllDigits, digits_value}
use Rattle.std.proofs.lemmas.Fmt.{decimal_is_IsNumeral, length-decimal-le, first_decimal, decimal-digits_value}
use Rattle.std.proofs.lemmas.Str.Parse.{numerals_by_value, tells_digits}
use Rattle.std.proofs.lemmas.Bool.Decides.{nat_tests}
use Rattle.rdm_profile.specs.declared.profile.fields.Width.{Width}
use Rattle.rdm_profile.specs.declared.profile.fields.Width.TheVariants.{One, Two, Four}
use Rattle.rdm_profile.specs.Fields.{reach_of}
use Rattle.rdm_standard_names.specs.declared.table.Table.{Table}
use Rattle.rdm_entry.specs.declared.field.Field.TheVariants as fields
use Rattle.rdm_entry.specs.declared.error.Wrong.TheVariants as wrong
use Rattle.rdm_entry.specs.Numerals.{numeral_in, is_unclear}
use Rattle.rdm_entry.specs.Words.{slots_of, ranged, number_named, number_said, said}
use Rattle.rdm_entry.proofs.Numerals.{at_ok, more_digits}

reach : (width : Width) (n : ℕ) → n < reach_of width → n < 4294967296
reach One n h = omega (arith, h)
reach Two n h = omega (arith, h)
reach Four n h = omega (arith, h)

digits : (n : ℕ) → n < 4294967296 → numeral_in 10 (decimal n) ≡ Some n
digits n small =
    let p = decimal_is_IsNumeral n (omega (arith, small)) in
    sym (at_ok 10 (decimal n) n (length-decimal-le 10 n (omega arith) (omega (arith, small)) (omega (arith, small))) p.0.0 p.0.1 (sym p.1))

zero_is : decimal 0 ≡ 48 ∷ []
zero_is = decimal-digits_value (numerals_by_value _ tells_digits) (48 ∷ []) (search rules) (omega arith) (λ e. refl) (omega arith)

clear : (n : ℕ) → n < 4294967296 → is_unclear n (decimal n) ≡ false
unfolding numeral_in
clear zero small = rw zero_is refl
clear (suc n) small =
    let first = first_decimal (suc n) (omega arith) (omega (arith, small)) in
    let e : (get_or (decimal (suc n)) 0 0 == 48) ≡ false = grind (arith, nat_tests) in
    rw e refl

in_range : (width : Width) (n : ℕ) → n < reach_of width → ranged width n ≡ Ok (slots_of width n)
unfolding ranged
in_range width n small = let e : ltb n (reach_of width) ≡ true = grind (arith, nat_tests) in rw e refl

read : (width : Width) → (named : Option ℕ) → (n : ℕ) → n < reach_of width → number_said width named (decimal n) ≡ Ok (slots_of width n)
read width named n small = rw (digits n (reach width n small), clear n (reach width n small)) (in_range width n small)

pub read_back : (width : Width) → (n : ℕ) → n < reach_of width → said (fields.Number width) (decimal n) ≡ Ok (slots_of width n)
unfolding said
read_back width n small = read width None n small

pub read_back_named : (width : Width) → (names : Table) → (n : ℕ) → n < reach_of width → said (fields.Named width names) (decimal n) ≡ Ok (slots_of width n)
unfolding said
read_back_named width names n small = read width (number_named names (decimal n)) n small

unread : (width : Width) → (named : Option ℕ) → (word : List ℕ) → AllDigits 10 word → length word ≤ 10 → get_or word 0 0 ≡ 48
    → digits_value 10 word ≢ digits_value 16 word → number_said width named word ≡ Err wrong.Unclear
unread width named [] all few first differ = absurd (omega arith)
unread width named (c ∷ cs) all few first differ =
    let ten = sym (at_ok 10 (c ∷ cs) (digits_value 10 (c ∷ cs)) few (omega arith) all refl) in
    let sixteen = sym (at_ok 16 (c ∷ cs) (digits_value 16 (c ∷ cs)) few (omega arith) (more_digits (c ∷ cs) all) refl) in
    let other : (digits_value 16 (c ∷ cs) == digits_value 10 (c ∷ cs)) ≡ false = grind (arith, nat_tests) in
    let zero_first : (c == 48) ≡ true = grind (arith, nat_tests) in
    rw (ten, sixteen, zero_first, other) refl

pub refused : (width : Width) → (word : List ℕ) → AllDigits 10 word → length word ≤ 10 → get_or word 0 0 ≡ 48
    → digits_value 10 word ≢ digits_value 16 word → said (fields.Number width) word ≡ Err wrong.Unclear
unfolding said
refused width word all few first differ = unread width None word all few first differ

pub refused_named : (width : Width) → (names : Table) → (word : List ℕ) → AllDigits 10 word → length word ≤ 10 → get_or word 0 0 ≡ 48
    → digits_value 10 word ≢ digits_value 16 word → said (fields.Named width names) word ≡ Err wrong.Unclear
unfolding said
refused_named width names word all few first differ = unread width (number_named names word) word all few first differ
