-- What an answer of the taking end tells.
use Rattle.std.proofs.Common.{◌≡◌, ℕ, ◌<◌, ◌≤◌, ◌||◌, Bool, true, false, List, [], ◌∷◌, ◌++◌, refl, sym, ◌∙◌, ap, slice_index_or, arith}
use Rattle.rdm_lane.specs.declared.taken.Taken.{Taken}
use Rattle.rdm_lane.specs.declared.taken.Taken.TheVariants.{Item, Mark, Empty, Closed}
use Rattle.rdm_lane.specs.Ends.{TakeState, with_taken, IsNext}
use Rattle.rdm_lane.specs.Rule.{FollowsIn}
use Rattle.rdm_lane.specs.Lane.{has_mark, marks_in}
use Rattle.rdm_lane.proofs.Marks.{has_mark-append, flag-mark}

module _ {T : Type 0} where
  -- what the rule tells of an entry is what an answer tells
  pub next : (s : TakeState T) (e : Taken T) → FollowsIn s.posts s.taken e → IsNext s e
  next s (Item p n x) follows = follows
  next s (Mark p) follows = follows
  next s Empty follows = absurd follows
  next s Closed follows = absurd follows

  -- it is an item or a mark
  pub taken_entry : (posts : ℕ) (ts : List (Taken T)) (e : Taken T) → FollowsIn posts ts e → with_taken ts e ≡ ts ++ e ∷ []
  taken_entry posts ts (Item p n x) follows = refl
  taken_entry posts ts (Mark p) follows = refl
  taken_entry posts ts Empty follows = absurd follows
  taken_entry posts ts Closed follows = absurd follows

  -- the flags after one more
  pub marks-after : (ts : List (Taken T)) (e : Taken T) (marks : List Bool) → marks ≡ marks_in ts → (slice_index_or marks 0 false || has_mark 0 (e ∷ [])) ∷ (slice_index_or marks 1 false || has_mark 1 (e ∷ [])) ∷ (slice_index_or marks 2 false || has_mark 2 (e ∷ [])) ∷ [] ≡ marks_in (ts ++ e ∷ [])
  marks-after ts e marks flags = rw (flags, has_mark-append 0 ts (e ∷ []), has_mark-append 1 ts (e ∷ []), has_mark-append 2 ts (e ∷ [])) refl

  -- the flags are all set exactly where the marks of all posts stand among what was taken
  pub over : (posts : ℕ) (ts : List (Taken T)) (marks : List Bool) → posts ≤ 3 → marks ≡ marks_in ts → ((p : ℕ) → p < posts → slice_index_or marks p false ≡ true) → (p : ℕ) → p < posts → has_mark p ts ≡ true
  over posts ts marks most flags all p below =
      let small : p < 3 = omega arith in
      sym (flag-mark ts p small) ∙ ap (λ l. slice_index_or l p false) (sym flags) ∙ all p below

  pub over_back : (posts : ℕ) (ts : List (Taken T)) (marks : List Bool) → posts ≤ 3 → marks ≡ marks_in ts → ((p : ℕ) → p < posts → has_mark p ts ≡ true) → (p : ℕ) → p < posts → slice_index_or marks p false ≡ true
  over_back posts ts marks most flags done p below =
      let small : p < 3 = omega arith in
      ap (λ l. slice_index_or l p false) flags ∙ flag-mark ts p small ∙ done p below
