-- The pieces of a text, one after the other: its words, and its lines.
use Rattle.std.proofs.Common.{◌≡◌, ℕ, ◌+◌, ◌<◌, ◌≤◌, Bool, true, false, not, cond, List, [], ◌∷◌, ◌++◌, length, get_or, take, drop, map, filter, position, All, Some, None, refl, sym, ap, subst, ◌∙◌, arith, append_assoc}
use Rattle.std.specs.List.{slice_split, position_or_len}
use Rattle.std.specs.Str.Lines.{strip_carriage_return}
use Rattle.std.proofs.lemmas.Bool.{ltb-true, ltb-false}
use Rattle.std.proofs.lemmas.Option.{cond_some}
use Rattle.std.proofs.lemmas.List.Sums.{prefix_len_passes}
use Rattle.std.proofs.lemmas.List.Splits.{slice_split_first, slice_split_none}
use Rattle.rdm_settings.specs.Cells.{is_blank, is_word, split_words}
use Rattle.rdm_settings.specs.Lines.{is_line_end, lines_of}

-- the first piece of a text with a byte that ends it, and the pieces behind it
pieces_more : (ends : ℕ → Bool) (text : List ℕ) (end : ℕ) → position ends text ≡ Some end → slice_split ends text ≡ take end text ∷ slice_split ends (drop (end + 1) text)
pieces_more ends text end h =
    let at = cond_some _ (position_or_len ends text) end h in
    let lt : position_or_len ends text < length text = ltb-true _ _ at.0 in
    subst (λ (n : ℕ). slice_split ends text ≡ take n text ∷ slice_split ends (drop (n + 1) text)) at.1 (slice_split_first ends text 0 lt)

not_so : (b : Bool) → not b ≡ true → b ≡ false
not_so true h = sym h
not_so false h = refl

no_position : (b : Bool) (n : ℕ) → cond b (Some n) None ≡ None → b ≡ false
no_position true n h = absurd cc
no_position false n h = refl

-- a text without such a byte is one piece
pieces_last : (ends : ℕ → Bool) (text : List ℕ) → position ends text ≡ None → slice_split ends text ≡ text ∷ []
pieces_last ends text h =
    let past : length text ≤ position_or_len ends text = ltb-false _ _ (no_position _ (position_or_len ends text) h) in
    let each : All (λ b. ends b ≡ false) text = λ k d lt. not_so (ends (get_or text k d)) (prefix_len_passes (λ b. not (ends b)) text k d (omega arith)) in
    slice_split_none ends text each

-- ---- words

filter_first : (p : List ℕ → Bool) (w : List ℕ) (ws : List (List ℕ)) → filter p (w ∷ ws) ≡ filter p (w ∷ []) ++ filter p ws
filter_first p w ws = by (p w) refl
  where
    by : (x : Bool) → p w ≡ x → cond x (w ∷ filter p ws) (filter p ws) ≡ cond x (w ∷ []) [] ++ filter p ws
    by true e = refl
    by false e = refl

-- the words so far and those of the text are all, and so are they with the first word of the text and those behind it
pub words_go_on : (told new every : List (List ℕ)) (text after : List ℕ) (end : ℕ) → position is_blank text ≡ Some end → after ≡ drop (end + 1) text
    → new ≡ told ++ filter is_word (take end text ∷ []) → told ++ split_words text ≡ every → new ++ split_words after ≡ every
unfolding split_words
words_go_on told new every text after end at is_after is_new so_far =
    let split : split_words text ≡ filter is_word (take end text ∷ []) ++ split_words (drop (end + 1) text) =
    ap (filter is_word) (pieces_more is_blank text end at) ∙ filter_first is_word (take end text) (slice_split is_blank (drop (end + 1) text)) in
    rw (is_new, is_after) (append_assoc told (filter is_word (take end text ∷ [])) (split_words (drop (end + 1) text)) ∙ ap (λ (z : List (List ℕ)). told ++ z) (sym split) ∙ so_far)

pub words_end : (told new every : List (List ℕ)) (text : List ℕ) → position is_blank text ≡ None → new ≡ told ++ filter is_word (text ∷ []) → told ++ split_words text ≡ every → new ≡ every
unfolding split_words
words_end told new every text at is_new so_far =
    is_new ∙ ap (λ (z : List (List ℕ)). told ++ filter is_word z) (sym (pieces_last is_blank text at)) ∙ so_far

-- ---- lines

pub lines_go_on : (told new every : List (List ℕ)) (text after : List ℕ) (end : ℕ) → position is_line_end text ≡ Some end → after ≡ drop (end + 1) text
    → new ≡ told ++ strip_carriage_return (take end text) ∷ [] → told ++ lines_of text ≡ every → new ++ lines_of after ≡ every
unfolding lines_of
lines_go_on told new every text after end at is_after is_new so_far =
    let split : lines_of text ≡ strip_carriage_return (take end text) ∷ lines_of (drop (end + 1) text) =
    ap (map strip_carriage_return) (pieces_more is_line_end text end at) in
    rw (is_new, is_after) (append_assoc told (strip_carriage_return (take end text) ∷ []) (lines_of (drop (end + 1) text)) ∙ ap (λ (z : List (List ℕ)). told ++ z) (sym split) ∙ so_far)

pub lines_end : (told new every : List (List ℕ)) (text : List ℕ) → position is_line_end text ≡ None → new ≡ told ++ strip_carriage_return text ∷ [] → told ++ lines_of text ≡ every → new ≡ every
unfolding lines_of
lines_end told new every text at is_new so_far =
    is_new ∙ ap (λ (z : List (List ℕ)). told ++ map strip_carriage_return z) (sym (pieces_last is_line_end text at)) ∙ so_far
