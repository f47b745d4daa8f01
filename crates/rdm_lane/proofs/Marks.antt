-- The flags of the three producers: whether the mark of each stands in a list.
use Rattle.std.proofs.Common.{◌≡◌, ℕ, zero, suc, ◌<◌, ◌||◌, false, List, ◌++◌, refl, ◌∙◌, ap, arith, slice_index_or}
use Rattle.std.specs.List.{list_any}
use Rattle.std.proofs.lemmas.List.Elements.{filter-append}
use Rattle.std.proofs.lemmas.List.Folds.{list_any-append}
use Rattle.rdm_lane.specs.declared.taken.Taken.{Taken}
use Rattle.rdm_lane.specs.Lane.{is_from, of, is_mark, has_mark, marks_in}

module _ {T : Type 0} where
  pub has_mark-append : (p : ℕ) (es fs : List (Taken T)) → has_mark p (es ++ fs) ≡ (has_mark p es || has_mark p fs)
  has_mark-append p es fs = ap (list_any is_mark) (filter-append (is_from p) es fs) ∙ list_any-append is_mark (of p es) (of p fs)

  pub flag-mark : (es : List (Taken T)) (p : ℕ) → p < 3 → slice_index_or (marks_in es) p false ≡ has_mark p es
  flag-mark es zero below = refl
  flag-mark es (suc zero) below = refl
  flag-mark es (suc (suc zero)) below = refl
  flag-mark es (suc (suc (suc p))) below = absurd (omega arith)
