-- Joining a list, and subsequences of joined lists. Of messages nothing is used but that `same_message` is equality.
use Rattle.std.proofs.Common.{◌≡◌, ℕ, true, false, List, [], ◌∷◌, ◌++◌, refl, ap, subst, inl, inr}
use Rattle.std.specs.List.{fold}
use Rattle.std.proofs.lemmas.Bool.{cases_Bool, both_ways, false_from_ne_true, and_parts, and_from, eqb-true, eq-eqb, cond-true, cond-false}
use Rattle.std.proofs.lemmas.List.Sums.{fold-append}
use Rattle.std.proofs.lemmas.Slice.Eq.{bytes_eq-Decides}
use Rattle.rdm_frame.specs.declared.message.Message.{Message}
use Rattle.rdm_collector.specs.Recording.{same_message, ends_with, and_then, join, JoinsFromTheFront, but_last, IsSubsequence}
use Rattle.rdm_collector.specs.Recording.IsSubsequence.{Nothing, Skips, Takes}

pub same-refl : (m : Message) → same_message m m ≡ true
unfolding same_message
same-refl m =
    and_from _ _ (and_from _ _ (and_from _ _ (eq-eqb m.class m.class refl) (eq-eqb m.pid m.pid refl)) (eq-eqb m.sub m.sub refl)) ((bytes_eq-Decides m.body m.body).1 refl)

abbrev message : ℕ → ℕ → ℕ → List ℕ → Message
message c p s b = record { class = c; pid = p; sub = s; body = b }

fields_same : (c c' p p' s s' : ℕ) (b b' : List ℕ) → c ≡ c' → p ≡ p' → s ≡ s' → b ≡ b' → message c p s b ≡ message c' p' s' b'
fields_same c c' p p' s s' b b' e1 e2 e3 e4 = rw (e1, e2, e3, e4) refl

pub same-true : (m n : Message) → same_message m n ≡ true → m ≡ n
unfolding same_message
same-true m n e =
    let all = and_parts _ _ e in
    let three = and_parts _ _ all.0 in
    let two = and_parts _ _ three.0 in
    fields_same m.class n.class m.pid n.pid m.sub n.sub m.body n.body (eqb-true _ _ two.0) (eqb-true _ _ two.1) (eqb-true _ _ three.1) ((bytes_eq-Decides m.body n.body).0 all.1)

pub same-symmetric : (m n : Message) → same_message m n ≡ false → same_message n m ≡ false
same-symmetric m n other = false_from_ne_true _ (λ same. both_ways _ other (rw (same-true n m same) (same-refl m)))

-- ---- joining

ends_with-push : (js : List Message) (m : Message) → ends_with (js ++ m ∷ []) m ≡ true
ends_with-push [] m = same-refl m
ends_with-push (x ∷ []) m = same-refl m
ends_with-push (x ∷ y ∷ ys) m = ends_with-push (y ∷ ys) m

pub and_then_old : (js : List Message) (m : Message) → ends_with js m ≡ true → and_then js m ≡ js
unfolding and_then
and_then_old js m e = cond-true _ _ _ e

pub and_then_new : (js : List Message) (m : Message) → ends_with js m ≡ false → and_then js m ≡ js ++ m ∷ []
unfolding and_then
and_then_new js m e = cond-false _ _ _ e

ends_with-and_then : (js : List Message) (m : Message) → ends_with (and_then js m) m ≡ true
ends_with-and_then js m =
    elim (cases_Bool (ends_with js m)) [
      | inl old ↦ rw (and_then_old js m old) old
      | inr new ↦ rw (and_then_new js m new) (ends_with-push js m)
    ]

pub and_then-and_then : (js : List Message) (m : Message) → and_then (and_then js m) m ≡ and_then js m
and_then-and_then js m = and_then_old (and_then js m) m (ends_with-and_then js m)

pub join-push : (ms : List Message) (m : Message) → join (ms ++ m ∷ []) ≡ and_then (join ms) m
unfolding join
join-push ms m = fold-append and_then [] ms (m ∷ [])

pub join-nil : join [] ≡ []
unfolding join
join-nil = refl

pub join-one : (m : Message) → join (m ∷ []) ≡ m ∷ []
unfolding join
join-one m = and_then_new [] m refl

-- a front that is no longer the end is left alone
fold-front : (x z : Message) (zs ys : List Message) → fold and_then (x ∷ z ∷ zs) ys ≡ x ∷ fold and_then (z ∷ zs) ys
fold-front x z zs [] = refl
fold-front x z zs (y ∷ ys) =
    elim (cases_Bool (ends_with (z ∷ zs) y)) [
      | inl old ↦ rw (and_then_old (x ∷ z ∷ zs) y old, and_then_old (z ∷ zs) y old) (fold-front x z zs ys)
      | inr new ↦ rw (and_then_new (x ∷ z ∷ zs) y new, and_then_new (z ∷ zs) y new) (fold-front x z (zs ++ y ∷ []) ys)
    ]

pub joins_from_the_front : JoinsFromTheFront
unfolding join
joins_from_the_front x y ys =
    elim (cases_Bool (same_message x y)) [
      | inl same ↦
          rw (and_then_new [] x refl, and_then_new [] y refl, and_then_old (x ∷ []) y same, same) (ap (λ (z : Message). fold and_then (z ∷ []) ys) (same-true x y same))
      | inr other ↦
          rw (and_then_new [] x refl, and_then_new [] y refl, and_then_new (x ∷ []) y other, other) (fold-front x y [] ys)
    ]

-- ---- subsequences

pub subsequence-push : (xs ys : List Message) (m : Message) → IsSubsequence xs ys → IsSubsequence xs (ys ++ m ∷ [])
subsequence-push _ _ m (Nothing ys) = Nothing (ys ++ m ∷ [])
subsequence-push _ _ m (Skips xs y ys h) = Skips xs y (ys ++ m ∷ []) (subsequence-push xs ys m h)
subsequence-push _ _ m (Takes x xs ys h) = Takes x xs (ys ++ m ∷ []) (subsequence-push xs ys m h)

pub subsequence-then : (xs ys : List Message) (m : Message) → IsSubsequence xs ys → IsSubsequence xs (and_then ys m)
subsequence-then xs ys m h =
    elim (cases_Bool (ends_with ys m)) [
      | inl old ↦ rw (and_then_old ys m old) h
      | inr new ↦ rw (and_then_new ys m new) (subsequence-push xs ys m h)
    ]

-- both get m at the end
subsequence-both : (xs ys : List Message) (m : Message) → IsSubsequence xs ys → IsSubsequence (xs ++ m ∷ []) (ys ++ m ∷ [])
subsequence-both _ _ m (Nothing []) = Takes m [] [] (Nothing [])
subsequence-both _ _ m (Nothing (y ∷ ys)) = Skips (m ∷ []) y (ys ++ m ∷ []) (subsequence-both [] ys m (Nothing ys))
subsequence-both _ _ m (Skips xs y ys h) = Skips (xs ++ m ∷ []) y (ys ++ m ∷ []) (subsequence-both xs ys m h)
subsequence-both _ _ m (Takes x xs ys h) = Takes x (xs ++ m ∷ []) (ys ++ m ∷ []) (subsequence-both xs ys m h)

ends-subsequence : (ys : List Message) (m : Message) → ends_with ys m ≡ true → IsSubsequence (m ∷ []) ys
ends-subsequence [] m e = absurd cc
ends-subsequence (y ∷ []) m e =
    let P : Message → Type 0 = λ z. IsSubsequence (z ∷ []) (y ∷ []) in
    subst P (same-true y m e) (Takes y [] [] (Nothing []))
ends-subsequence (y ∷ z ∷ zs) m e = Skips (m ∷ []) y (z ∷ zs) (ends-subsequence (z ∷ zs) m e)

-- the second has m at its end already, and the first hasn't
subsequence-at_end : (xs ys : List Message) (m : Message) → IsSubsequence xs ys → ends_with xs m ≡ false → ends_with ys m ≡ true → IsSubsequence (xs ++ m ∷ []) ys
subsequence-at_end _ _ m (Nothing ys) new old = ends-subsequence ys m old
subsequence-at_end _ _ m (Skips [] y [] h) new old = ends-subsequence (y ∷ []) m old
subsequence-at_end _ _ m (Skips (x ∷ xs) y [] h) new old = elim h [ ]
subsequence-at_end _ _ m (Skips xs y (z ∷ zs) h) new old = Skips (xs ++ m ∷ []) y (z ∷ zs) (subsequence-at_end xs (z ∷ zs) m h new old)
subsequence-at_end _ _ m (Takes x [] [] h) new old = absurd cc
subsequence-at_end _ _ m (Takes x [] (z ∷ zs) h) new old = Takes x (m ∷ []) (z ∷ zs) (ends-subsequence (z ∷ zs) m old)
subsequence-at_end _ _ m (Takes x (w ∷ ws) [] h) new old = elim h [ ]
subsequence-at_end _ _ m (Takes x (w ∷ ws) (z ∷ zs) h) new old =
    Takes x ((w ∷ ws) ++ m ∷ []) (z ∷ zs) (subsequence-at_end (w ∷ ws) (z ∷ zs) m h new old)

pub subsequence-same : (xs ys : List Message) (m : Message) → IsSubsequence xs ys → IsSubsequence (and_then xs m) (and_then ys m)
subsequence-same xs ys m h =
    elim (cases_Bool (ends_with xs m)) [
      | inl old ↦ rw (and_then_old xs m old) (subsequence-then xs ys m h)
      | inr new ↦
          elim (cases_Bool (ends_with ys m)) [
            | inl there ↦ rw (and_then_new xs m new, and_then_old ys m there) (subsequence-at_end xs ys m h new there)
            | inr none ↦ rw (and_then_new xs m new, and_then_new ys m none) (subsequence-both xs ys m h)
          ]
    ]

-- ---- all but the last

pub but_last-push : (xs : List Message) (m : Message) → but_last (xs ++ m ∷ []) ≡ xs
but_last-push [] m = refl
but_last-push (x ∷ []) m = refl
but_last-push (x ∷ y ∷ ys) m = ap (λ (zs : List Message). x ∷ zs) (but_last-push (y ∷ ys) m)

pub subsequence-but_last : (xs ys : List Message) → IsSubsequence xs ys → IsSubsequence (but_last xs) ys
subsequence-but_last _ _ (Nothing ys) = Nothing ys
subsequence-but_last _ _ (Skips xs y ys h) = Skips (but_last xs) y ys (subsequence-but_last xs ys h)
subsequence-but_last _ _ (Takes x [] ys h) = Nothing (x ∷ ys)
subsequence-but_last _ _ (Takes x (z ∷ zs) ys h) = Takes x (but_last (z ∷ zs)) ys (subsequence-but_last (z ∷ zs) ys h)
