-- Of which producer an entry is, and where it stands among what its post has put.
use Rattle.std.proofs.Common.{◌≡◌, ◌≢◌, ℕ, suc, ◌+◌, ◌<◌, ◌≤◌, eq-eqb, eqb-true, true, false, cond, List, [], ◌∷◌, ◌++◌, length, refl, sym, ◌∙◌, ap, subst, append_assoc, arith, length-append, All, ⊎_elim}
use Rattle.std.proofs.lemmas.Bool.Decides.{eqb_tells}
use Rattle.std.proofs.lemmas.List.{append-nil}
use Rattle.std.proofs.lemmas.List.Elements.{filter-append}
use Rattle.rdm_lane.specs.declared.taken.Taken.{Taken}
use Rattle.rdm_lane.specs.declared.taken.Taken.TheVariants.{Item, Mark, Empty, Closed}
use Rattle.rdm_lane.specs.Lane.{is_from, of, numbered, put_closed, IsPrefix}
use Rattle.rdm_lane.specs.Rule.{IsGiven, IsPut, FollowsIn}
use Rattle.rdm_lane.proofs.ThreeSentences.{unfollowed}

module _ {T : Type 0} where
  -- an entry of p is none of q
  not_from : (p q : ℕ) (e : Taken T) → is_from p e ≡ true → q ≢ p → is_from q e ≡ false
  not_from p q (Item r n x) own other = ⊎_elim (λ (y : _ × (r ≡ q)). absurd (other (sym y.1 ∙ eqb-true r p own))) (λ (n : _ × (r ≢ q)). n.0) (eqb_tells r q)
  not_from p q (Mark r) own other = ⊎_elim (λ (y : _ × (r ≡ q)). absurd (other (sym y.1 ∙ eqb-true r p own))) (λ (n : _ × (r ≢ q)). n.0) (eqb_tells r q)
  not_from p q Empty own other = absurd cc
  not_from p q Closed own other = absurd cc

  pub of_push-own : (p : ℕ) (es : List (Taken T)) (e : Taken T) → is_from p e ≡ true → of p (es ++ e ∷ []) ≡ of p es ++ e ∷ []
  of_push-own p es e own = filter-append (is_from p) es (e ∷ []) ∙ ap (λ b. of p es ++ cond b (e ∷ []) []) own

  pub of_push-other : (p q : ℕ) (es : List (Taken T)) (e : Taken T) → is_from p e ≡ true → q ≢ p → of q (es ++ e ∷ []) ≡ of q es
  of_push-other p q es e own other =
      filter-append (is_from q) es (e ∷ []) ∙ ap (λ b. of q es ++ cond b (e ∷ []) []) (not_from p q e own other) ∙ append-nil (of q es)

  -- an entry of a producer whose number was given
  pub given_from : (p posts : ℕ) (e : Taken T) → is_from p e ≡ true → p < posts → IsGiven posts e
  given_from p posts (Item r n x) own below = subst (λ k. k < posts) (sym (eqb-true r p own)) below
  given_from p posts (Mark r) own below = subst (λ k. k < posts) (sym (eqb-true r p own)) below
  given_from p posts Empty own below = absurd cc
  given_from p posts Closed own below = absurd cc

  pub given_more : (posts : ℕ) (e : Taken T) → IsGiven posts e → IsGiven (posts + 1) e
  given_more posts (Item r n x) given = let below : r < posts = given in omega arith
  given_more posts (Mark r) given = let below : r < posts = given in omega arith
  given_more posts Empty given = given
  given_more posts Closed given = given

  not_given : (p posts : ℕ) (e : Taken T) → IsGiven posts e → posts ≤ p → is_from p e ≡ false
  not_given p posts (Item r n x) given above = ⊎_elim (λ (y : _ × (r ≡ p)). let same : r ≡ p = y.1 in let below : r < posts = given in absurd (omega arith)) (λ (n : _ × (r ≢ p)). n.0) (eqb_tells r p)
  not_given p posts (Mark r) given above = ⊎_elim (λ (y : _ × (r ≡ p)). let same : r ≡ p = y.1 in let below : r < posts = given in absurd (omega arith)) (λ (n : _ × (r ≢ p)). n.0) (eqb_tells r p)
  not_given p posts Empty given above = refl
  not_given p posts Closed given above = refl

  -- a producer whose number wasn't given has no entry
  pub none_of : (p posts : ℕ) (es : List (Taken T)) → All (IsGiven posts) es → posts ≤ p → of p es ≡ []
  none_of p posts [] given above = refl
  none_of p posts (e ∷ es) given above =
      let first : IsGiven posts e = given 0 e (omega arith) in
      let others : All (IsGiven posts) es = λ k d within. given (suc k) d (omega arith) in
      ap (λ b. cond b (e ∷ of p es) (of p es)) (not_given p posts e first above) ∙ none_of p posts es others above

  -- one more item gets the next number
  pub numbered-push : (p k n : ℕ) (xs : List T) (x : T) → n ≡ k + length xs → numbered p k (xs ++ x ∷ []) ≡ numbered p k xs ++ Item p n x ∷ []
  numbered-push p k n [] x next = let same : k ≡ n = omega arith in ap (λ m. Item p m x ∷ []) same
  numbered-push p k n (y ∷ ys) x next = ap (λ l. Item p k y ∷ l) (numbered-push p (k + 1) n ys x (omega arith))

  -- an item stands at its number
  number_at : (p k : ℕ) (xs : List T) (before after : List (Taken T)) (q n : ℕ) (x : T) → before ++ Item q n x ∷ after ≡ numbered p k xs ++ Mark p ∷ [] → (n ≡ k + length before) × (length before < length xs)
  number_at p k [] [] after q n x same = absurd cc
  number_at p k [] (b ∷ bs) after q n x same =
      let tail : bs ++ Item q n x ∷ after ≡ [] = cc in
      let none : length (bs ++ Item q n x ∷ after) ≡ 0 = ap length tail in
      let more : length (bs ++ Item q n x ∷ after) ≡ length bs + length (Item q n x ∷ after) = length-append bs (Item q n x ∷ after) in
      absurd (omega arith)
  number_at p k (y ∷ ys) [] after q n x same =
      let number : n ≡ k = cc in
      (omega arith, omega arith)
  number_at p k (y ∷ ys) (b ∷ bs) after q n x same =
      let tail : bs ++ Item q n x ∷ after ≡ numbered p (k + 1) ys ++ Mark p ∷ [] = cc in
      let rest = number_at p (k + 1) ys bs after q n x tail in
      let number : n ≡ k + 1 + length bs = rest.0 in
      let room : length bs < length ys = rest.1 in
      (omega arith, omega arith)

  -- what a post has put is a front of what it would have put if it were closed
  pub up_to_mark : (p : ℕ) (es : List (Taken T)) → IsPut p es → (xs : List T) × (length xs ≤ 4294967295) × IsPrefix es (put_closed p xs)
  up_to_mark p es fit = (
    fit.0,
    fit.1,
    ⊎_elim (λ (still : es ≡ numbered p 0 fit.0). (Mark p ∷ [], ap (λ l. l ++ Mark p ∷ []) still)) (λ (closed : es ≡ put_closed p fit.0). ([], append-nil es ∙ closed)) fit.2,
  )

  -- an entry in the middle, among those of its producer
  in_place : (p : ℕ) (taken waiting : List (Taken T)) (e : Taken T) → is_from p e ≡ true → IsPut p (of p (taken ++ e ∷ waiting)) → (xs : List T) × (after : List (Taken T)) × (length xs ≤ 4294967295) × (of p taken ++ e ∷ after ≡ put_closed p xs)
  in_place p taken waiting e own fit =
      let whole = up_to_mark p (of p (taken ++ e ∷ waiting)) fit in
      let split : of p (taken ++ e ∷ waiting) ≡ of p taken ++ e ∷ of p waiting = filter-append (is_from p) taken (e ∷ waiting) ∙ ap (λ b. of p taken ++ cond b (e ∷ of p waiting) (of p waiting)) own in (
        whole.0,
        of p waiting ++ whole.2.0,
        whole.1,
        sym (append_assoc (of p taken) (e ∷ of p waiting) whole.2.0) ∙ ap (λ l. l ++ whole.2.0) (sym split) ∙ whole.2.1,
      )

  -- what the rule tells of an entry behind what was taken
  pub follows : (posts : ℕ) (taken waiting : List (Taken T)) (e : Taken T) → IsGiven posts e → ((p : ℕ) → IsPut p (of p (taken ++ e ∷ waiting))) → FollowsIn posts taken e
  follows posts taken waiting (Item p n x) given put =
      let at = in_place p taken waiting (Item p n x) (eq-eqb p p refl) (put p) in
      let here = number_at p 0 at.0 (of p taken) at.1 p n x at.3 in
      let counted : n ≡ 0 + length (of p taken) = here.0 in
      let number : n ≡ length (of p taken) = omega arith in
      let room : length (of p taken) < length at.0 = here.1 in
      let most : length at.0 ≤ 4294967295 = at.2 in
      (given, number, omega arith, unfollowed p at.0 (of p taken) at.1 (Item p n x) at.3)
  follows posts taken waiting (Mark p) given put =
      let at = in_place p taken waiting (Mark p) (eq-eqb p p refl) (put p) in
      (given, unfollowed p at.0 (of p taken) at.1 (Mark p) at.3)
  follows posts taken waiting Empty given put = absurd given
  follows posts taken waiting Closed given put = absurd given
