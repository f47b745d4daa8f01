-- A time that is written is read back: seconds are cut at their point.
use Rattle.std.proofs.Common.{◌≡◌, ℕ, ◌+◌, ◌*◌, ◌/◌, ◌%◌, ◌<◌, ◌^◌, ◌==◌, Bool, true, false, not, ◌&&◌, eqb, List, [], ◌∷◌, ◌++◌, length, Some, codes, decimal, refl, ap, ◌∙◌, arith}
use Rattle.std.specs.List.{position_or_len}
use Rattle.std.specs.Str.Parse.{AllDigits}
use Rattle.std.proofs.Math.Seq.{drop-append-add}
use Rattle.std.proofs.lemmas.List.{take_at}
use Rattle.std.proofs.lemmas.Bool.{ne_eqb, le-leb}
use Rattle.std.proofs.lemmas.Fmt.{decimal_is_IsNumeral}
use Rattle.std.proofs.lemmas.Str.Parse.{digit_from_value}
use Rattle.rdm_trace.specs.declared.line.Line.TheVariants.{Time}
use Rattle.rdm_trace.specs.LineText.{three_figures, seconds_words}
use Rattle.rdm_trace.specs.Numbers.{number_up_to}
use Rattle.rdm_trace.specs.Reading.{before_point, behind_point, figure_in, thousandths_in, seconds_in, time_in}
use Rattle.rdm_trace.proofs.Cuts.{both, no_space, first_is, behind_is}
use Rattle.rdm_trace.proofs.Decimals.{decimal_no_space, number_back}

-- no byte of the number is a point
abbrev pub no_point : List ℕ → Bool
no_point [] = true
no_point (b ∷ bs) = not (b == 46) && no_point bs

at_point : (front rest : List ℕ) → no_point front ≡ true → position_or_len (λ b. b == 46) (front ++ 46 ∷ rest) ≡ length front
at_point [] rest h = refl
at_point (b ∷ bs) rest h =
    let parts = both (not (b == 46)) (no_point bs) h in
    rw parts.0 (omega (arith, at_point bs rest parts.1))

before_is : (front rest : List ℕ) → no_point front ≡ true → before_point (front ++ 46 ∷ rest) ≡ front
unfolding before_point
before_is front rest h = rw (at_point front rest h) (take_at front (46 ∷ rest) (length front) refl)

behind_point_is : (front rest : List ℕ) → no_point front ≡ true → behind_point (front ++ 46 ∷ rest) ≡ rest
unfolding behind_point
behind_point_is front rest h = rw (at_point front rest h) (drop-append-add front (46 ∷ rest) 1)

digits_no_point : (ds : List ℕ) → AllDigits 10 ds → no_point ds ≡ true
digits_no_point [] d = refl
digits_no_point (c ∷ cs) d = rw (ne_eqb c 46 (omega (arith, digit_from_value c d.0)), digits_no_point cs d.1) refl

decimal_no_point : (n : ℕ) → n < 2 ^ 64 → no_point (decimal n) ≡ true
decimal_no_point n h = digits_no_point (decimal n) (decimal_is_IsNumeral n h).0.1

figure_back : (n : ℕ) → n < 10 → figure_in (48 + n) ≡ Some n
figure_back n h = rw (le-leb 48 (48 + n) (omega arith), le-leb (48 + n) 57 (omega arith)) (ap Some (omega arith))

figures_back : (n : ℕ) → n < 1000 → thousandths_in (three_figures n) ≡ Some n
unfolding thousandths_in
figures_back n h =
    rw (figure_back (n / 100) (omega arith), figure_back (n / 10 % 10) (omega arith), figure_back (n % 10) (omega arith)) (ap Some (omega arith))

seconds_back : (n : ℕ) → n < 4294967296000 → seconds_in (seconds_words n) ≡ Some n
unfolding seconds_in
seconds_back n h =
    let plain = decimal_no_point (n / 1000) (omega arith) in
    rw (
      before_is (decimal (n / 1000)) (three_figures (n % 1000)) plain,
      behind_point_is (decimal (n / 1000)) (three_figures (n % 1000)) plain,
      number_back 4294967295 (n / 1000) (omega arith) (omega arith),
      figures_back (n % 1000) (omega arith),
    ) (ap Some (omega arith))

plain_append : (xs ys : List ℕ) → no_space xs ≡ true → no_space ys ≡ true → no_space (xs ++ ys) ≡ true
plain_append [] ys p q = q
plain_append (x ∷ xs) ys p q = let parts = both (not (x == 32)) (no_space xs) p in rw (parts.0, plain_append xs ys parts.1 q) refl

figures_plain : (n : ℕ) → no_space (46 ∷ three_figures n) ≡ true
figures_plain n =
    rw (ne_eqb (48 + n / 100) 32 (omega arith), ne_eqb (48 + n / 10 % 10) 32 (omega arith), ne_eqb (48 + n % 10) 32 (omega arith)) refl

seconds_plain : (n : ℕ) → n < 4294967296000 → no_space (seconds_words n) ≡ true
seconds_plain n h = plain_append (decimal (n / 1000)) (46 ∷ three_figures (n % 1000)) (decimal_no_space (n / 1000) (omega arith)) (figures_plain (n % 1000))

pub time_back : (n : ℕ) → n < 4294967296000 → time_in (seconds_words n ++ codes " s") ≡ Some (Time n)
unfolding time_in
time_back n h =
    let plain = seconds_plain n h in
    rw (first_is (seconds_words n) (codes "s") plain, behind_is (seconds_words n) (codes "s") plain, seconds_back n h) refl
