-- The entries of a list, one after the other.
use Rattle.std.proofs.Common.{◌≡◌, ◌≢◌, ℕ, zero, suc, ◌<◌, ◌≤◌, Bool, cond, List, [], ◌∷◌, ◌++◌, length, take, drop, Result, Ok, Err, OnOk, refl, sym, ap, subst, ◌∙◌, arith}
use Rattle.std.proofs.lemmas.Bool.{ne_eqb}
use Rattle.std.proofs.lemmas.List.{length-drop}
use Rattle.std.specs.List.{flat_map}
use Rattle.rdm_words.specs.FieldFacts.{entries, each_entry}
use Rattle.rdm_words.specs.Naming.{AddsNames, PutsFacts}
use Rattle.rdm_words.proofs.Naming.{adds_both, adds_nothing, puts_both}

-- one entry more
step : (most slots x : ℕ) (d : List ℕ) → entries (suc most) slots (x ∷ d) ≡ take slots (x ∷ d) ∷ entries most slots (drop slots (x ∷ d))
step most slots x d =
    ap (λ (b : Bool). cond b [] (take slots (x ∷ d) ∷ entries most slots (drop slots (x ∷ d)))) (ne_eqb (length (x ∷ d)) 0 (λ e. absurd (omega (arith, e))))

shorter : (slots x n : ℕ) (d : List ℕ) → 0 < slots → length (x ∷ d) ≤ suc n → length (drop slots (x ∷ d)) ≤ n
shorter slots x n d s a = omega (arith, s, a, length-drop slots (x ∷ d))

-- enough is as many as one likes
enough : (n m slots : ℕ) (d : List ℕ) → 0 < slots → length d ≤ n → length d ≤ m → entries n slots d ≡ entries m slots d
enough zero zero slots d s a b = refl
enough zero (suc m) slots [] s a b = refl
enough zero (suc m) slots (x ∷ d) s a b = absurd (omega (arith, a))
enough (suc n) zero slots [] s a b = refl
enough (suc n) zero slots (x ∷ d) s a b = absurd (omega (arith, b))
enough (suc n) (suc m) slots [] s a b = refl
enough (suc n) (suc m) slots (x ∷ d) s a b =
    step n slots x d
    ∙ ap (λ (rest : List (List ℕ)). take slots (x ∷ d) ∷ rest) (enough n m slots (drop slots (x ∷ d)) s (shorter slots x n d s a) (shorter slots x m d s b))
    ∙ sym (step m slots x d)

module _ (facts : List ℕ → List (List ℕ)) (slots : ℕ) where
  next : (d : List ℕ) → 0 < slots → length d ≢ 0 → each_entry slots facts d ≡ facts (take slots d) ++ each_entry slots facts (drop slots d)
  next [] s some = absurd (some refl)
  next (x ∷ d) s some =
      ap (λ (all : List (List ℕ)). flat_map facts all)
      (step (length d) slots x d
      ∙ ap (λ (rest : List (List ℕ)). take slots (x ∷ d) ∷ rest)
      (enough (length d) (length (drop slots (x ∷ d))) slots (drop slots (x ∷ d)) s (shorter slots x (length d) d s (omega arith)) (omega arith)))

  -- no entry
  pub none_put : {T E : Type 0} (r : Result T E) (d old new : List ℕ) → length d ≡ 0 → OnOk r (PutsFacts [] old new) → OnOk r (PutsFacts (each_entry slots facts d) old new)
  none_put r [] old new none put = put
  none_put r (x ∷ d) old new none put = absurd (omega (arith, none))

  -- the first entry, and the others behind it
  pub first_put : {T E : Type 0} (r : Result T E) (d old mid new : List ℕ) → 0 < slots → length d ≢ 0 → PutsFacts (facts (take slots d)) old mid
      → OnOk r (AddsNames (each_entry slots facts (drop slots d)) mid new) → OnOk r (PutsFacts (each_entry slots facts d) old new)
  first_put (Err e) d old mid new s some one more = tt
  first_put (Ok t) d old mid new s some one more =
      subst (λ (fs : List (List ℕ)). PutsFacts fs old new) (sym (next d s some))
      (puts_both (facts (take slots d)) (each_entry slots facts (drop slots d)) old mid new one more)

  -- the same where what is the first entry, and what follows it, was looked up
  pub first_of : {T E : Type 0} (r : Result T E) (n : ℕ) (d old mid new entry rest : List ℕ) → n ≡ slots → 0 < n → length d ≢ 0 → entry ≡ take n d → rest ≡ drop n d
      → PutsFacts (facts entry) old mid → OnOk r (AddsNames (each_entry slots facts rest) mid new) → OnOk r (PutsFacts (each_entry slots facts d) old new)
  first_of r n d old mid new entry rest same s some e b one more =
      first_put r d old mid new (subst (λ (k : ℕ). 0 < k) same s) some
      (subst (λ (w : List ℕ). PutsFacts (facts w) old mid) (e ∙ ap (λ (k : ℕ). take k d) same) one)
      (subst (λ (w : List ℕ). OnOk r (AddsNames (each_entry slots facts w) mid new)) (b ∙ ap (λ (k : ℕ). drop k d) same) more)

  -- ---- the loop

  -- what the entries so far add, before those of the rest
  abbrev pub AddedBefore : List ℕ → List ℕ → List ℕ → List ℕ → Type 0
  AddedBefore d old rest text = (new : List ℕ) → AddsNames (each_entry slots facts rest) text new → AddsNames (each_entry slots facts d) old new

  pub added_first : (d old : List ℕ) → AddedBefore d old d old
  added_first d old = λ new more. more

  pub added_more : (d old rest text mid : List ℕ) → 0 < slots → length rest ≢ 0 → AddsNames (facts (take slots rest)) text mid → AddedBefore d old rest text
      → AddedBefore d old (drop slots rest) mid
  added_more d old rest text mid s some one so_far = λ new more.
      so_far new (subst (λ (fs : List (List ℕ)). AddsNames fs text new) (sym (next rest s some))
      (adds_both (facts (take slots rest)) (each_entry slots facts (drop slots rest)) text mid new one more))

  pub added_next : (n : ℕ) (d old rest text mid entry behind : List ℕ) → n ≡ slots → 0 < n → length rest ≢ 0 → entry ≡ take n rest → behind ≡ drop n rest
      → AddsNames (facts entry) text mid → AddedBefore d old rest text → AddedBefore d old behind mid
  added_next n d old rest text mid entry behind same s some e b one so_far =
      subst (λ (w : List ℕ). AddedBefore d old w mid) (sym (b ∙ ap (λ (k : ℕ). drop k rest) same))
      (added_more d old rest text mid (subst (λ (k : ℕ). 0 < k) same s) some
      (subst (λ (w : List ℕ). AddsNames (facts w) text mid) (e ∙ ap (λ (k : ℕ). take k rest) same) one) so_far)

  pub added_whole : (d old rest text : List ℕ) → length rest ≡ 0 → AddedBefore d old rest text → AddsNames (each_entry slots facts d) old text
  added_whole d old [] text none so_far = so_far text (adds_nothing text)
  added_whole d old (x ∷ rest) text none so_far = absurd (omega (arith, none))
