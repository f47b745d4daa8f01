-- A UID is found by its number.
use Rattle.std.proofs.Common.{◌≡◌, ℕ, zero, suc, ◌<◌, ◌≤◌, ◌↔◌, List, [], ◌∷◌, length, get_or, map, Result, Ok, Err, refl, sym, ap, subst, ◌∙◌, inl, inr, arith}
use Rattle.std.specs.Prelude.{IfSome, is_some, IsSome, Contains}
use Rattle.std.specs.Result.{result_ok, MatchResult}
use Rattle.std.proofs.lemmas.Bool.{cases_order, cases_lt, false≢true}
use Rattle.std.specs.Ordering.{nat_cmp}
use Rattle.std.specs.List.Sorted.{IsBinarySearchResult}
use Rattle.std.proofs.lemmas.List.{length-map}
use Rattle.std.proofs.lemmas.List.Sorted.{searched}
use Rattle.rdm_frame.specs.declared.uid.Uid.{Uid}
use Rattle.rdm_frame.specs.FrameText.{IsUid}
use Rattle.rdm_frame.specs.UidNumber.{uid_number}
use Rattle.rdm_line.specs.Line.{AreInOrder, IsGap, IsOnlyAt, uid_of}

abbrev uid : ℕ → ℕ → Uid
uid m d = record { maker = m; device = d }

uid_same : (m m' d d' : ℕ) → m ≡ m' → d ≡ d' → uid m d ≡ uid m' d'
uid_same m m' d d' e1 e2 = rw (e1, e2) refl

pub uid_again : (u : Uid) → IsUid u → uid_of (uid_number u) ≡ u
uid_again u fits = uid_same _ u.maker _ u.device (omega (arith, fits.device)) (omega (arith, fits.device))

pub number_again : (n : ℕ) → uid_number (uid_of n) ≡ n
number_again n = omega arith

pub at_map : (ns : List ℕ) (i e : ℕ) (d : Uid) → i < length ns → get_or (map uid_of ns) i d ≡ uid_of (get_or ns i e)
at_map [] i e d lt = absurd (omega (arith, lt))
at_map (n ∷ ns) zero e d lt = refl
at_map (n ∷ ns) (suc i) e d lt = at_map ns i e d (omega (arith, lt))

pub same_place : (ns : List ℕ) (i j : ℕ) → AreInOrder ns → i < length ns → j < length ns → get_or ns i 0 ≡ get_or ns j 0 → j ≡ i
same_place ns i j order li lj e =
    elim (cases_order i j) [
      | inl same ↦ sym same
      | inr (inl lt) ↦ absurd (let h = order.rise i j lt lj in omega (arith, e))
      | inr (inr lt) ↦ absurd (let h = order.rise j i lt li in omega (arith, e))
    ]

-- what a search for the number finds
abbrev pub Found : List ℕ → ℕ → ℕ → Type 0
Found ns n i = (i < length ns) × (get_or ns i 0 ≡ n)

abbrev pub Gap : List ℕ → ℕ → ℕ → Type 0
Gap ns n i = (i ≤ length ns) × ((k : ℕ) → k < i → get_or ns k 0 < n) × ((k : ℕ) → i ≤ k → k < length ns → n < get_or ns k 0)

number_at : (ns : List ℕ) (u : Uid) (j : ℕ) → j < length ns → get_or (map uid_of ns) j u ≡ u → get_or ns j 0 ≡ uid_number u
number_at ns u j lt e = sym (number_again (get_or ns j 0)) ∙ ap uid_number (sym (at_map ns j 0 u lt) ∙ e)

pub place_of : (ns : List ℕ) (u : Uid) (r : Result ℕ ℕ) (m : ℕ) → m ≡ length ns → AreInOrder ns → IsUid u → MatchResult r (Found ns (uid_number u)) (Gap ns (uid_number u)) → IfSome (result_ok r) (λ i. IsOnlyAt u (map uid_of ns) i × (i < m))
place_of ns u (Ok i) m long order fits is = (
  record {
    within = omega (arith, length-map ns uid_of, is.0);
    there = at_map ns i 0 u is.0 ∙ ap uid_of is.1 ∙ uid_again u fits;
    only = λ j lt e. (let lj : j < length ns = omega (arith, length-map ns uid_of, lt) in same_place ns i j order is.0 lj (is.1 ∙ sym (number_at ns u j lj e)));
  },
  omega (arith, is.0, long),
)
place_of ns u (Err i) m long order fits is = tt

pub is_found : (ns : List ℕ) (u : Uid) (r : Result ℕ ℕ) → AreInOrder ns → IsUid u → MatchResult r (Found ns (uid_number u)) (Gap ns (uid_number u)) → IsSome (result_ok r) ↔ Contains (map uid_of ns) u
is_found ns u (Ok i) order fits is =
    let at = (place_of ns u (Ok i) (length ns) refl order fits is).0 in (λ some. (i, at.within, at.there), λ there. refl)
is_found ns u (Err i) order fits is = (
  λ some. absurd (false≢true some),
  λ there.
      absurd (
      let lt : there.0 < length ns = omega (arith, length-map ns uid_of, there.1) in
      let n = number_at ns u there.0 lt there.2 in
      elim (cases_lt there.0 i) [ inl below ↦ (let h = is.1 there.0 below in omega (arith, n)) | inr above ↦ (let h = is.2 there.0 above lt in omega (arith, n)) ]
      ),
)

rising : (ns : List ℕ) → AreInOrder ns → (i j : ℕ) → i ≤ j → j < length ns → get_or ns i 0 ≤ get_or ns j 0
rising ns order i j le lt =
    elim (cases_order i j) [
      | inl same ↦ (let e = ap (λ (k : ℕ). get_or ns k 0) same in omega (arith, e))
      | inr (inl below) ↦ (let h = order.rise i j below lt in omega (arith, h))
      | inr (inr above) ↦ absurd (omega (arith, le, above))
    ]

-- what the search says of the numbers that were handed to it
pub in_numbers : (ns given : List ℕ) (u : Uid) (n : ℕ) (r : Result ℕ ℕ) → given ≡ ns → n ≡ uid_number u → AreInOrder ns → IsBinarySearchResult (λ (y : ℕ). nat_cmp y n) given r → MatchResult r (Found ns (uid_number u)) (Gap ns (uid_number u))
in_numbers ns given u n r e k order is =
    let here : IsBinarySearchResult (λ (y : ℕ). nat_cmp y (uid_number u)) ns r = subst (λ (m : ℕ). IsBinarySearchResult (λ (y : ℕ). nat_cmp y m) ns r) k (subst (λ (xs : List ℕ). IsBinarySearchResult (λ (y : ℕ). nat_cmp y n) xs r) e is) in
    searched ns (uid_number u) r here (rising ns order)

pub gap_of : (ns : List ℕ) (n : ℕ) (r : Result ℕ ℕ) (i : ℕ) → r ≡ Err i → MatchResult r (Found ns n) (Gap ns n) → IsGap ns n i
gap_of ns n r i e is =
    let gap : Gap ns n i = subst (λ (q : Result ℕ ℕ). MatchResult q (Found ns n) (Gap ns n)) e is in
    record { within = gap.0; above = gap.1; below = gap.2 }

pub not_there : (ns : List ℕ) (u : Uid) (r : Result ℕ ℕ) (i : ℕ) → r ≡ Err i → AreInOrder ns → IsUid u → MatchResult r (Found ns (uid_number u)) (Gap ns (uid_number u)) → Contains (map uid_of ns) u → ⊥
not_there ns u r i e order fits is there =
    false≢true (ap (λ (q : Result ℕ ℕ). is_some (result_ok q)) (sym e) ∙ (is_found ns u r order fits is).1 there)

-- a place at which the number stands
pub hinted_place : (ns given : List ℕ) (u : Uid) (n i m : ℕ) → given ≡ ns → n ≡ uid_number u → m ≡ length ns → AreInOrder ns → IsUid u → (i < length given) × (get_or given i 0 ≡ n) → IsOnlyAt u (map uid_of ns) i × (i < m)
hinted_place ns given u n i m e k long order fits is =
    place_of ns u (Ok i) m long order fits (subst (λ (xs : List ℕ). (i < length xs) × (get_or xs i 0 ≡ uid_number u)) e (is.0, is.1 ∙ k))
