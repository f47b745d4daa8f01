-- The lines of a text one after the other, and what is read of them.
use Rattle.std.proofs.Common.{◌≡◌, ℕ, zero, suc, ◌+◌, ◌-◌, ◌<◌, ◌≤◌, ◌==◌, ◌&&◌, Bool, true, false, not, cond, List, [], ◌∷◌, ◌++◌, length, get_or, take, drop, position, slice_get, is_some, All, Option, Some, None, refl, sym, ap, subst, ◌∙◌, arith, append-nil}
use Rattle.std.specs.List.{flat_map, list_all, slice_split, position_or_len}
use Rattle.std.specs.Option.{option_to_list}
use Rattle.std.proofs.lemmas.Bool.{ltb-true, ltb-false}
use Rattle.std.proofs.lemmas.Grind.{flat_map-append}
use Rattle.std.proofs.lemmas.List.Folds.{list_all-append}
use Rattle.std.proofs.lemmas.List.Sums.{prefix_len_passes}
use Rattle.std.proofs.lemmas.List.Splits.{slice_split_first, slice_split_none}
use Rattle.std.proofs.lemmas.Option.{cond_some}
use Rattle.rdm_trace.specs.declared.line.Line.{Line}
use Rattle.rdm_trace.specs.Traces.{pieces_of, line_of, is_line, is_remark, lines_said, AreWhole, IsFirstUnread}

abbrev is_lf : ℕ → Bool
is_lf b = b == 10

-- the line in front of the first LF, and the lines behind it
pub pieces_more : (text : List ℕ) (end : ℕ) → position is_lf text ≡ Some end → pieces_of text ≡ take end text ∷ pieces_of (drop (end + 1) text)
unfolding pieces_of
pieces_more text end h =
    let at = cond_some _ (position_or_len is_lf text) end h in
    let lt : position_or_len is_lf text < length text = ltb-true _ _ at.0 in
    subst (λ (n : ℕ). slice_split is_lf text ≡ take n text ∷ slice_split is_lf (drop (n + 1) text)) at.1 (slice_split_first is_lf text 0 lt)

not_so : (b : Bool) → not b ≡ true → b ≡ false
not_so true h = sym h
not_so false h = refl

no_position : (b : Bool) (n : ℕ) → cond b (Some n) None ≡ None → b ≡ false
no_position true n h = absurd cc
no_position false n h = refl

-- a text without LF is one line
pub pieces_last : (text : List ℕ) → position is_lf text ≡ None → pieces_of text ≡ text ∷ []
unfolding pieces_of
pieces_last text h =
    let past : length text ≤ position_or_len is_lf text = ltb-false _ _ (no_position _ (position_or_len is_lf text) h) in
    let each : All (λ b. is_lf b ≡ false) text = λ k d lt. not_so (is_lf (get_or text k d)) (prefix_len_passes (λ b. not (is_lf b)) text k d (omega arith)) in
    slice_split_none is_lf text each

-- ---- the next line of what is left

-- so many lines were read: what they say, and that each was one of a trace
pub record HasRead (pieces : List (List ℕ)) (index : ℕ) (lines : List Line) : Type 0 where
  pub said : lines ≡ lines_said (take index pieces)
  pub before : list_all is_line (take index pieces) ≡ true

-- one more of them, and what is behind it
pub record IsNext (pieces : List (List ℕ)) (index : ℕ) (piece : List ℕ) (rest : List (List ℕ)) : Type 0 where
  pub there : slice_get pieces index ≡ Some piece
  pub with_it : take (suc index) pieces ≡ take index pieces ++ piece ∷ []
  pub behind : drop (suc index) pieces ≡ rest

pub next : (pieces : List (List ℕ)) (index : ℕ) (piece : List ℕ) (rest : List (List ℕ)) → drop index pieces ≡ piece ∷ rest → IsNext pieces index piece rest
next [] zero piece rest h = absurd cc
next [] (suc index) piece rest h = absurd cc
next (p ∷ ps) zero piece rest h = record { there = cc; with_it = cc; behind = cc }
next (p ∷ ps) (suc index) piece rest h =
    let n = next ps index piece rest h in
    record { there = n.there; with_it = ap (λ (t : List (List ℕ)). p ∷ t) n.with_it; behind = n.behind }

-- what is read with one more
pub said_more : (pieces : List (List ℕ)) (index : ℕ) (piece : List ℕ) (rest : List (List ℕ)) (lines : List Line) → IsNext pieces index piece rest → HasRead pieces index lines → lines ++ option_to_list (line_of piece) ≡ lines_said (take (suc index) pieces)
said_more pieces index piece rest lines n read =
    rw (n.with_it, read.said)
    (sym (flat_map-append (λ (p : List ℕ). option_to_list (line_of p)) (take index pieces) (piece ∷ [])
    ∙ ap (λ (t : List Line). lines_said (take index pieces) ++ t) (append-nil (option_to_list (line_of piece)))))

pub read_more : (pieces : List (List ℕ)) (index : ℕ) (piece : List ℕ) (rest : List (List ℕ)) (lines : List Line) → IsNext pieces index piece rest → is_line piece ≡ true → HasRead pieces index lines → HasRead pieces (suc index) (lines ++ option_to_list (line_of piece))
read_more pieces index piece rest lines n line read = record {
  said = said_more pieces index piece rest lines n read;
  before = rw (n.with_it, list_all-append is_line (take index pieces) (piece ∷ []), read.before, line) refl;
}

-- a line that isn't one of a trace, behind lines that are
pub unread : (pieces : List (List ℕ)) (index number : ℕ) (piece : List ℕ) (rest : List (List ℕ)) (lines : List Line) → IsNext pieces index piece rest → number ≡ index + 1 → line_of piece ≡ None → is_remark piece ≡ false → HasRead pieces index lines → IsFirstUnread pieces number
unread pieces index number piece rest lines n counted none other read = record { index = index; counted = counted; piece = piece; there = n.there; unread = none; other = other; before = read.before }

-- where one line is left, all lines are those before it and this one
last_count : (pieces : List (List ℕ)) (index : ℕ) (piece : List ℕ) → drop index pieces ≡ piece ∷ [] → length pieces ≡ suc index
last_count [] zero piece h = absurd cc
last_count [] (suc index) piece h = absurd cc
last_count (p ∷ []) zero piece h = refl
last_count (p ∷ q ∷ ps) zero piece h = absurd cc
last_count (p ∷ ps) (suc index) piece h = ap suc (last_count ps index piece h)

all_taken : (pieces : List (List ℕ)) (count : ℕ) → length pieces ≡ count → take count pieces ≡ pieces
all_taken [] zero h = refl
all_taken [] (suc count) h = refl
all_taken (p ∷ ps) zero h = absurd (omega (arith, h))
all_taken (p ∷ ps) (suc count) h = ap (λ (t : List (List ℕ)). p ∷ t) (all_taken ps count (omega (arith, h)))

pub all_said : (pieces : List (List ℕ)) (index : ℕ) (piece : List ℕ) (lines : List Line) → drop index pieces ≡ piece ∷ [] → HasRead pieces index lines → lines ++ option_to_list (line_of piece) ≡ lines_said pieces
all_said pieces index piece lines h read =
    said_more pieces index piece [] lines (next pieces index piece [] h) read ∙ ap lines_said (all_taken pieces (suc index) (last_count pieces index piece h))

pub all_whole : (pieces : List (List ℕ)) (index : ℕ) (piece : List ℕ) (lines : List Line) → drop index pieces ≡ piece ∷ [] → HasRead pieces index lines → AreWhole pieces
all_whole pieces index piece lines h read =
    let count : length pieces - 1 ≡ index = omega (arith, last_count pieces index piece h) in
    rw count read.before
