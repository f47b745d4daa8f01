-- How many fixtures of a range aren't muted.
use Rattle.std.proofs.Common.{◌≡◌, ℕ, ◌+◌, ◌*◌, ◌/◌, ◌<◌, ◌≤◌, Bool, true, false, ◌&&◌, ◌||◌, not, cond, eqb, List, [], ◌∷◌, map, length, refl, sym, ap, ◌∙◌, inl, inr, arith}
use Rattle.std.specs.Prelude.{All}
use Rattle.std.specs.List.{filter}
use Rattle.std.proofs.lemmas.Bool.{cases_Bool, and_parts, eqb-true, eq-eqb, false≢true}
use Rattle.std.proofs.lemmas.Bool.Decides.{nat_tests}
use Rattle.std.proofs.lemmas.List.Elements.{All-nil, All-cons}
use Rattle.rdm_frame.specs.declared.uid.Uid.{Uid}
use Rattle.rdm_frame.specs.Addressing.{is_addressed}
use Rattle.rdm_search.specs.declared.range.Range.{Range}
use Rattle.rdm_search.specs.Line.{Fixture, calls, callers, uids, after_mute}
use Rattle.rdm_search.specs.Ranges.{place, low, high}
use Rattle.rdm_search.specs.Stages.{is_in, when, count, IsUnmuted}
use Rattle.rdm_search.proofs.Places.{calls_in, halves}

-- ---- those that answer are those that are counted

taken : (b : Bool) (f : Fixture) (rest : List Fixture) → length (uids (cond b (f ∷ rest) rest)) ≡ when b 1 + length (uids rest)
taken true f rest = omega arith
taken false f rest = omega arith

pub count_callers : (r : Range) (line : List Fixture) → length (callers (low r) (high r) line) ≡ count r.depth r.index line
count_callers r [] = refl
count_callers r (f ∷ line) =
    taken (calls (low r) (high r) f) f (filter (calls (low r) (high r)) line) ∙ ap (λ (n : ℕ). when (calls (low r) (high r) f) 1 + n) (count_callers r line) ∙ ap (λ (b : Bool). when b 1 + count r.depth r.index line) (calls_in r f)

-- ---- none

abbrev pub IsOut : ℕ → ℕ → Fixture → Type 0
IsOut d i f = f.muted ≡ false → place d f.uid ≡ i → ⊥

out : (m b : Bool) → when (not m && b) 1 ≡ 0 → m ≡ false → b ≡ true → ⊥
out true b e em eb = absurd cc
out false true e em eb = omega arith
out false false e em eb = absurd cc

pub none_in : (d i : ℕ) (line : List Fixture) → count d i line ≡ 0 → All (IsOut d i) line
none_in d i [] e = All-nil (IsOut d i)
none_in d i (f ∷ line) e =
    All-cons (IsOut d i) f line (λ m p. out f.muted (eqb (place d f.uid) i) (omega arith) m (eq-eqb _ _ p)) (none_in d i line (omega arith))

-- ---- halves

half : (m : Bool) (q i : ℕ) → when (not m && eqb (q / 2) i) 1 ≡ when (not m && eqb q (2 * i)) 1 + when (not m && eqb q (2 * i + 1)) 1
half true q i = omega arith
half false q i = grind (arith, nat_tests)

pub count_halves : (d i : ℕ) → d < 48 → (line : List Fixture) → count d i line ≡ count (d + 1) (2 * i) line + count (d + 1) (2 * i + 1) line
count_halves d i h [] = omega arith
count_halves d i h (f ∷ line) =
    let rest : count d i line ≡ count (d + 1) (2 * i) line + count (d + 1) (2 * i + 1) line = count_halves d i h line in
    let e : when (is_in d i f) 1 ≡ when (not f.muted && eqb (place (d + 1) f.uid / 2) i) 1 = ap (λ (q : ℕ). when (not f.muted && eqb q i) 1) (halves d _ h) in
    let both = half f.muted (place (d + 1) f.uid) i in
    omega arith

-- ---- after a mute

fewer_at : (m x b : Bool) → when (not (m || x) && b) 1 ≤ when (not m && b) 1
fewer_at true x b = omega arith
fewer_at false true true = omega arith
fewer_at false true false = omega arith
fewer_at false false b = omega arith

pub no_more : (u : Uid) (d i : ℕ) (line : List Fixture) → count d i (map (after_mute u) line) ≤ count d i line
no_more u d i [] = omega arith
no_more u d i (f ∷ line) =
    let here = fewer_at f.muted (is_addressed f.uid u) (eqb (place d f.uid) i) in
    let rest = no_more u d i line in
    omega arith

pub addressed_itself : (u : Uid) → is_addressed u u ≡ true
addressed_itself u = grind (arith, nat_tests)

one_less : (m x b : Bool) → m ≡ false → x ≡ true → b ≡ true → when (not (m || x) && b) 1 + 1 ≤ when (not m && b) 1
one_less true x b em ex eb = absurd cc
one_less false true true em ex eb = omega arith
one_less false true false em ex eb = absurd cc
one_less false false b em ex eb = absurd cc

pub fewer : (u : Uid) (d i : ℕ) → place d u ≡ i → (line : List Fixture) → IsUnmuted u line → count d i (map (after_mute u) line) + 1 ≤ count d i line
fewer u d i p [] h = absurd h
fewer u d i p (f ∷ line) (inl h) =
    let here = one_less f.muted (is_addressed f.uid u) (eqb (place d f.uid) i) h.1 (ap (λ (v : Uid). is_addressed v u) h.0 ∙ addressed_itself u) (eq-eqb _ _ (ap (place d) h.0 ∙ p)) in
    let rest = no_more u d i line in
    omega arith
fewer u d i p (f ∷ line) (inr h) =
    let here = fewer_at f.muted (is_addressed f.uid u) (eqb (place d f.uid) i) in
    let rest = fewer u d i p line h in
    omega arith

pub counted : (u : Uid) (d i : ℕ) → place d u ≡ i → (line : List Fixture) → IsUnmuted u line → 1 ≤ count d i line
counted u d i p line h = let less = fewer u d i p line h in omega arith

-- ---- one that answers alone

abbrev first_of_callers : Uid → List Uid → Type 0
first_of_callers u us = (rest : List Uid) × (us ≡ u ∷ rest)

-- one that answers is on the line, unmuted and in the range
pub caller : (r : Range) (u : Uid) (rest : List Uid) (line : List Fixture) → callers (low r) (high r) line ≡ u ∷ rest → IsUnmuted u line × (place r.depth u ≡ r.index)
caller r u rest [] e = absurd cc
caller r u rest (f ∷ line) e =
    elim (cases_Bool (calls (low r) (high r) f)) [
      | inl yes' ↦
          let now : f.uid ∷ callers (low r) (high r) line ≡ u ∷ rest = ap (λ (b : Bool). uids (cond b (f ∷ filter (calls (low r) (high r)) line) (filter (calls (low r) (high r)) line))) (sym yes') ∙ e in
          let same : f.uid ≡ u = cc in
          let parts = and_parts (not f.muted) (eqb (place r.depth f.uid) r.index) (sym (calls_in r f) ∙ yes') in
          let m : f.muted ≡ false = elim (cases_Bool f.muted) [ inl t ↦ absurd (false≢true (ap not (sym t) ∙ parts.0)) | inr n ↦ n ] in
          (inl (same, m), ap (place r.depth) (sym same) ∙ eqb-true _ _ parts.1)
      | inr no' ↦
          let now : callers (low r) (high r) line ≡ u ∷ rest = ap (λ (b : Bool). uids (cond b (f ∷ filter (calls (low r) (high r)) line) (filter (calls (low r) (high r)) line))) (sym no') ∙ e in
          let h = caller r u rest line now in (inr h.0, h.1)
    ]
