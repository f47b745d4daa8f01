-- The items of a producer among what was taken.
use Rattle.std.proofs.Common.{◌≡◌, ℕ, suc, ◌==◌, Bool, true, false, cond, List, [], ◌∷◌, ◌++◌, length, refl, sym, ◌∙◌, ap, subst}
use Rattle.std.specs.List.{list_any}
use Rattle.std.proofs.lemmas.List.{append-nil}
use Rattle.std.proofs.lemmas.List.Elements.{filter-append}
use Rattle.rdm_lane.specs.declared.taken.Taken.{Taken}
use Rattle.rdm_lane.specs.declared.taken.Taken.TheVariants.{Item, Mark, Empty, Closed}
use Rattle.rdm_lane.specs.Lane.{is_from, of, is_mark, has_mark, items_of, items_from}

module _ {T : Type 0} where
  pub items-append : (es fs : List (Taken T)) → items_of (es ++ fs) ≡ items_of es ++ items_of fs
  unfolding items_of
  items-append [] fs = refl
  items-append (Item q n x ∷ es) fs = ap (λ l. x ∷ l) (items-append es fs)
  items-append (Mark q ∷ es) fs = items-append es fs
  items-append (Empty ∷ es) fs = items-append es fs
  items-append (Closed ∷ es) fs = items-append es fs

  pub from-append : (p : ℕ) (es fs : List (Taken T)) → items_from p (es ++ fs) ≡ items_from p es ++ items_from p fs
  from-append p es fs = ap items_of (filter-append (is_from p) es fs) ∙ items-append (of p es) (of p fs)

  of_one : (n : ℕ) (x : T) → items_from 0 (Item 0 n x ∷ []) ≡ x ∷ []
  unfolding items_of
  of_one n x = refl

  none_of : (b : Bool) (m : Taken T) → is_mark m ≡ true → items_of (cond b (m ∷ []) []) ≡ []
  unfolding items_of
  none_of true (Item q n x) e = absurd cc
  none_of true (Mark q) e = refl
  none_of true Empty e = refl
  none_of true Closed e = refl
  none_of false m e = refl

  -- after one more item of producer 0, and after a mark
  pub from-item : (es : List (Taken T)) (n : ℕ) (x : T) → items_from 0 (es ++ Item 0 n x ∷ []) ≡ items_from 0 es ++ x ∷ []
  from-item es n x = from-append 0 es (Item 0 n x ∷ []) ∙ ap (λ l. items_from 0 es ++ l) (of_one n x)

  pub from-mark : (p q : ℕ) (es : List (Taken T)) (m : Taken T) → m ≡ Mark q → items_from p (es ++ m ∷ []) ≡ items_from p es
  from-mark p q es m e =
      from-append p es (m ∷ [])
      ∙ ap (λ l. items_from p es ++ l) (subst (λ e. items_of (cond (is_from p e) (e ∷ []) []) ≡ []) (sym e) (none_of (q == p) (Mark q) refl))
      ∙ append-nil (items_from p es)

  -- Where no mark of a producer stands among them, it has as many items as entries.
  count_item : (b : Bool) (q n : ℕ) (x : T) (fs : List (Taken T)) → (list_any is_mark fs ≡ false → length (items_of fs) ≡ length fs)
      → list_any is_mark (cond b (Item q n x ∷ fs) fs) ≡ false → length (items_of (cond b (Item q n x ∷ fs) fs)) ≡ length (cond b (Item q n x ∷ fs) fs)
  unfolding items_of
  count_item true q n x fs same none = ap suc (same none)
  count_item false q n x fs same none = same none

  count_mark : (b : Bool) (q : ℕ) (m : Taken T) (fs : List (Taken T)) → m ≡ Mark q → (list_any is_mark fs ≡ false → length (items_of fs) ≡ length fs)
      → list_any is_mark (cond b (m ∷ fs) fs) ≡ false → length (items_of (cond b (m ∷ fs) fs)) ≡ length (cond b (m ∷ fs) fs)
  count_mark true q m fs mark same none = absurd (let marked : is_mark m ≡ true = ap is_mark mark in cc)
  count_mark false q m fs mark same none = same none

  pub count : (p : ℕ) (es : List (Taken T)) → has_mark p es ≡ false → length (items_from p es) ≡ length (of p es)
  unfolding items_of
  count p [] none = refl
  count p (Item q n x ∷ es) none = count_item (q == p) q n x (of p es) (count p es) none
  count p (Mark q ∷ es) none = count_mark (q == p) q (Mark q) (of p es) refl (count p es) none
  count p (Empty ∷ es) none = count p es none
  count p (Closed ∷ es) none = count p es none
