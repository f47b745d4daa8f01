-- The pieces of a text, one after the other.
use Rattle.std.proofs.Common.{◌≡◌, ℕ, ◌+◌, ◌<◌, ◌≤◌, Bool, true, false, not, cond, List, [], ◌∷◌, length, get_or, take, drop, position, All, Some, None, refl, sym, subst, arith}
use Rattle.std.specs.List.{slice_split, position_or_len}
use Rattle.std.proofs.lemmas.Bool.{ltb-true, ltb-false}
use Rattle.std.proofs.lemmas.Option.{cond_some}
use Rattle.std.proofs.lemmas.List.Sums.{prefix_len_passes}
use Rattle.std.proofs.lemmas.List.Splits.{slice_split_first, slice_split_none}

-- the first piece of a text with a byte that ends it, and the pieces behind it
pub pieces_more : (ends : ℕ → Bool) (text : List ℕ) (end : ℕ) → position ends text ≡ Some end → slice_split ends text ≡ take end text ∷ slice_split ends (drop (end + 1) text)
pieces_more ends text end h =
    let at = cond_some _ (position_or_len ends text) end h in
    let lt : position_or_len ends text < length text = ltb-true _ _ at.0 in
    subst (λ (n : ℕ). slice_split ends text ≡ take n text ∷ slice_split ends (drop (n + 1) text)) at.1 (slice_split_first ends text 0 lt)

not_so : (b : Bool) → not b ≡ true → b ≡ false
not_so true h = sym h
not_so false h = refl

no_position : (b : Bool) (n : ℕ) → cond b (Some n) None ≡ None → b ≡ false
no_position true n h = absurd cc
no_position false n h = refl

-- a text without such a byte is one piece
pub pieces_last : (ends : ℕ → Bool) (text : List ℕ) → position ends text ≡ None → slice_split ends text ≡ text ∷ []
pieces_last ends text h =
    let past : length text ≤ position_or_len ends text = ltb-false _ _ (no_position _ (position_or_len ends text) h) in
    let each : All (λ b. ends b ≡ false) text = λ k d lt. not_so (ends (get_or text k d)) (prefix_len_passes (λ b. not (ends b)) text k d (omega arith)) in
    slice_split_none ends text each
