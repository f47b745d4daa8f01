-- The lines of a text one after the other, and what is said of them.
use Rattle.std.proofs.Common.{◌≡◌, ◌≢◌, ℕ, ◌+◌, ◌<◌, ◌≤◌, ◌==◌, Bool, true, false, not, cond, List, [], ◌∷◌, ◌++◌, length, get_or, take, drop, position, All, Some, None, refl, sym, ap, subst, ◌∙◌, arith, append_assoc}
use Rattle.std.specs.List.{slice_split, position_or_len}
use Rattle.std.specs.Str.Lines.{strip_carriage_return as without_return, lines, lines_of_parts}
use Rattle.std.proofs.lemmas.List.{append-nil}
use Rattle.std.proofs.lemmas.Bool.{ltb-true, ltb-false, ne_eqb}
use Rattle.std.proofs.lemmas.Option.{cond_some}
use Rattle.std.proofs.lemmas.List.Sums.{prefix_len_passes}
use Rattle.std.proofs.lemmas.List.Splits.{slice_split_first, slice_split_none, length-slice_split}
use Rattle.rdm_trace.specs.Reading.{line_in}
use Rattle.rdm_words.specs.declared.before.Before.{Before}
use Rattle.rdm_words.specs.Said.{Says, SayInTurn, behind}

abbrev is_lf : ℕ → Bool
is_lf b = b == 10

-- the part in front of the first LF, and the parts behind it
parts_more : (text : List ℕ) (end : ℕ) → position is_lf text ≡ Some end → slice_split is_lf text ≡ take end text ∷ slice_split is_lf (drop (end + 1) text)
parts_more text end h =
    let at = cond_some _ (position_or_len is_lf text) end h in
    let lt : position_or_len is_lf text < length text = ltb-true _ _ at.0 in
    subst (λ (n : ℕ). slice_split is_lf text ≡ take n text ∷ slice_split is_lf (drop (n + 1) text)) at.1 (slice_split_first is_lf text 0 lt)

not_so : (b : Bool) → not b ≡ true → b ≡ false
not_so true h = sym h
not_so false h = refl

no_position : (b : Bool) (n : ℕ) → cond b (Some n) None ≡ None → b ≡ false
no_position true n h = absurd cc
no_position false n h = refl

-- a text without LF is one part
parts_last : (text : List ℕ) → position is_lf text ≡ None → slice_split is_lf text ≡ text ∷ []
parts_last text h =
    let past : length text ≤ position_or_len is_lf text = ltb-false _ _ (no_position _ (position_or_len is_lf text) h) in
    let each : All (λ b. is_lf b ≡ false) text = λ k d lt. not_so (is_lf (get_or text k d)) (prefix_len_passes (λ b. not (is_lf b)) text k d (omega arith)) in
    slice_split_none is_lf text each

parts_first : (line : List ℕ) (more : List (List ℕ)) → 0 < length more → lines_of_parts (line ∷ more) ≡ without_return line ∷ lines_of_parts more
parts_first line [] h = absurd (omega arith)
parts_first line (next ∷ more) h = refl

-- the first line of a text with an LF, and the lines behind it
lines_more : (text : List ℕ) (end : ℕ) → position is_lf text ≡ Some end → lines text ≡ without_return (take end text) ∷ lines (drop (end + 1) text)
lines_more text end h =
    ap lines_of_parts (parts_more text end h) ∙ parts_first (take end text) (slice_split is_lf (drop (end + 1) text)) (omega (arith, length-slice_split is_lf (drop (end + 1) text)))

-- a text without LF has no line if it is empty, else one
lines_none : lines [] ≡ []
lines_none = refl

full : (text : List ℕ) → length text ≢ 0 → lines_of_parts (text ∷ []) ≡ text ∷ []
full text h = rw (ne_eqb (length text) 0 h) refl

lines_last : (text : List ℕ) → position is_lf text ≡ None → length text ≢ 0 → lines text ≡ text ∷ []
lines_last text h some = ap lines_of_parts (parts_last text h) ∙ full text some

nothing : (xs : List ℕ) → length xs ≡ 0 → xs ≡ []
nothing [] h = refl
nothing (x ∷ xs) h = absurd (omega (arith, h))

-- what is said so far, before what is said of the lines of the rest, says the whole
abbrev pub SaidBefore : Before → List ℕ → Before → List ℕ → List ℕ → Type 0
SaidBefore first text before rest said = (more : List ℕ) → SayInTurn before (lines rest) more → SayInTurn first (lines text) (said ++ more)

put_together : (first : Before) (lines : List (List ℕ)) (said own more : List ℕ) → SayInTurn first lines (said ++ (own ++ more)) → SayInTurn first lines ((said ++ own) ++ more)
put_together first lines said own more h = subst (λ (text : List ℕ). SayInTurn first lines text) (sym (append_assoc said own more)) h

-- once the first line of the rest is said
pub said_more : (first before next : Before) (text rest line said own : List ℕ) (end : ℕ) → position is_lf rest ≡ Some end → line ≡ without_return (take end rest)
    → Says before line own → next ≡ behind (line_in line) before → SaidBefore first text before rest said
    → SaidBefore first text next (drop (end + 1) rest) (said ++ own)
said_more first before next text rest line said own end h same says is so_far = λ more told.
    put_together first (lines text) said own more (so_far (own ++ more) (
    subst (λ (ls : List (List ℕ)). SayInTurn before ls (own ++ more)) (sym (lines_more rest end h))
    (subst (λ (l : List ℕ). SayInTurn before (l ∷ lines (drop (end + 1) rest)) (own ++ more)) same
    (own, more, refl, says, subst (λ (b : Before). SayInTurn b (lines (drop (end + 1) rest)) more) is told))))

-- once the last line is said, which no LF ends
pub said_last : (first before : Before) (text rest said own : List ℕ) → position is_lf rest ≡ None → length rest ≢ 0 → Says before rest own → SaidBefore first text before rest said
    → SayInTurn first (lines text) (said ++ own)
said_last first before text rest said own h some says so_far =
    so_far own (subst (λ (ls : List (List ℕ)). SayInTurn before ls own) (sym (lines_last rest h some)) (own, [], sym (append-nil own), says, refl))

-- where no line is left
pub said_whole : (first before : Before) (text rest said : List ℕ) → length rest ≡ 0 → SaidBefore first text before rest said → SayInTurn first (lines text) said
said_whole first before text rest said none so_far =
    subst (λ (t : List ℕ). SayInTurn first (lines text) t) (append-nil said)
    (so_far [] (subst (λ (r : List ℕ). SayInTurn before (lines r) []) (sym (nothing rest none)) refl))
