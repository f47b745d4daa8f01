-- How many transactions are left.
use Rattle.std.proofs.Common.{◌≡◌, ℕ, zero, suc, ◌+◌, ◌-◌, ◌*◌, ◌/◌, ◌%◌, ◌<◌, ◌≤◌, Bool, true, false, eqb, List, [], ◌∷◌, map, length, sym, ap, ◌∙◌, subst, add-one, inl, inr, ◌⊎◌, arith}
use Rattle.std.proofs.Math.Nat.{add-mul, mul-add, mul-le-mul_right}
use Rattle.std.proofs.lemmas.Bool.{eq-eqb}
use Rattle.rdm_frame.specs.declared.uid.Uid.{Uid}
use Rattle.rdm_search.specs.Line.{Fixture, after_mute}
use Rattle.rdm_search.specs.Stages.{when, is_in, count, busy, later}
use Rattle.rdm_search.proofs.Counts.{count_halves, no_more}

split : (m n c : ℕ) → m * c + n * c + 3 * (m + n) ≡ (m + n) * (c + 3)
split m n c = let a = add-mul m n c in let b = mul-add (m + n) c 3 in omega (arith, a, b)

-- A halving pays three for each fixture that is there.
pub busy_halves : (d i : ℕ) → d < 48 → (line : List Fixture) → busy (d + 1) (2 * i) line + busy (d + 1) (2 * i + 1) line + 3 * count d i line ≡ busy d i line
busy_halves d i h line =
    let m = count (d + 1) (2 * i) line in let n = count (d + 1) (2 * i + 1) line in let c = 148 - 3 * (d + 1) in
    let e : c + 3 ≡ 148 - 3 * d = omega arith in
    ap (λ (k : ℕ). m * c + n * c + 3 * k) (count_halves d i h line) ∙ split m n c ∙ ap (λ (k : ℕ). (m + n) * k) e ∙ ap (λ (k : ℕ). k * (148 - 3 * d)) (sym (count_halves d i h line))

pub later_lower : (d i : ℕ) (line : List Fixture) → later (d + 1) (2 * i) line ≡ 2 + busy (d + 1) (2 * i + 1) line + later d i line
later_lower d i line =
    let P : ℕ → Type 0 = λ k. later k (2 * i) line ≡ 2 + busy k (2 * i + 1) line + later d i line in
    let even : 2 * i % 2 ≡ 0 = omega arith in
    let half : 2 * i / 2 ≡ i = omega arith in
    let there : P (suc d) = ap (λ (b : Bool). when b (2 + busy (suc d) (2 * i + 1) line) + later d (2 * i / 2) line) (eq-eqb _ _ even) ∙ ap (λ (k : ℕ). 2 + busy (suc d) (2 * i + 1) line + later d k line) half in
    subst P (sym (add-one d)) there

pub busy_less : (d i : ℕ) (line line' : List Fixture) → count d i line' ≤ count d i line → busy d i line' ≤ busy d i line
busy_less d i line line' h = mul-le-mul_right (148 - 3 * d) h

when_less : (b : Bool) (m n : ℕ) → m ≤ n → when b m ≤ when b n
when_less true m n h = h
when_less false m n h = omega arith

pub later_less : (u : Uid) (d i : ℕ) (line : List Fixture) → later d i (map (after_mute u) line) ≤ later d i line
later_less u zero i line = omega arith
later_less u (suc d) i line =
    let here = busy_less (suc d) (i + 1) line (map (after_mute u) line) (no_more u (suc d) (i + 1) line) in
    let both = when_less (eqb (i % 2) 0) (2 + busy (suc d) (i + 1) (map (after_mute u) line)) (2 + busy (suc d) (i + 1) line) (omega arith) in
    let rest = later_less u d (i / 2) line in
    omega arith

-- one fixture less pays four and more
pub busy_one_less : (d i : ℕ) → d ≤ 48 → (line line' : List Fixture) → count d i line' + 1 ≤ count d i line → busy d i line' + 4 ≤ busy d i line
busy_one_less d i h line line' less =
    let c = 148 - 3 * d in
    let m = mul-le-mul_right c less in
    let e = add-mul (count d i line') 1 c in
    omega (arith, m, e)

-- what a halving after a mute pays
pub mute_pays : (d i : ℕ) → d < 48 → (line line' : List Fixture) → count d i line' ≤ count d i line → (2 ≤ count d i line) ⊎ (count d i line' + 1 ≤ count d i line) → busy d i line' + 6 ≤ busy d i line + 3 * count d i line'
mute_pays d i h line line' less due =
    let k = 145 - 3 * d in let m = count d i line in let n = count d i line' in
    let four : 4 ≤ k = omega arith in
    let c : 148 - 3 * d ≡ k + 3 = omega arith in
    let old : busy d i line ≡ m * k + m * 3 = ap (λ (x : ℕ). m * x) c ∙ mul-add m k 3 in
    let new : busy d i line' ≡ n * k + n * 3 = ap (λ (x : ℕ). n * x) c ∙ mul-add n k 3 in
    elim due [
      | inl two ↦ let le = mul-le-mul_right k less in omega (arith, le)
      | inr one ↦ let le = mul-le-mul_right k one in let e = add-mul n 1 k in omega (arith, le, e)
    ]

-- and after a mute for a UID that an altered answer made up
pub stray_pays : (d i : ℕ) → d < 48 → (line line' : List Fixture) → count d i line' ≤ count d i line → 1 ≤ count d i line → busy d i line' + 6 ≤ busy d i line + 3 * count d i line' + 3
stray_pays d i h line line' less some =
    let k = 145 - 3 * d in let m = count d i line in let n = count d i line' in
    let c : 148 - 3 * d ≡ k + 3 = omega arith in
    let old : busy d i line ≡ m * k + m * 3 = ap (λ (x : ℕ). m * x) c ∙ mul-add m k 3 in
    let new : busy d i line' ≡ n * k + n * 3 = ap (λ (x : ℕ). n * x) c ∙ mul-add n k 3 in
    let le = mul-le-mul_right k less in
    omega (arith, le)

pub three_at_most : (b : Bool) → when b 3 ≤ 3
three_at_most true = omega arith
three_at_most false = omega arith

one_at_most : (b : Bool) → when b 1 ≤ 1
one_at_most true = omega arith
one_at_most false = omega arith

pub at_most : (d i : ℕ) (line : List Fixture) → count d i line ≤ length line
at_most d i [] = omega arith
at_most d i (f ∷ line) = let rest = at_most d i line in let here = one_at_most (is_in d i f) in omega arith
