-- The lines of a trace one after the other, and their words.
use Rattle.std.proofs.Common.{◌≡◌, ℕ, ◌+◌, ◌<◌, List, [], ◌∷◌, ◌++◌, length, drop, get_or, refl, sym, ap, subst, ◌∙◌, arith, append_assoc, append-nil, add-one}
use Rattle.std.proofs.Math.Seq.{drop-cons}
use Rattle.rdm_trace.specs.declared.line.Line.{Line}
use Rattle.rdm_words.specs.declared.before.Before.{Before}
use Rattle.rdm_words.specs.Before.{after}
use Rattle.rdm_words.specs.Said.{TellsLine, AreToldInTurn}

-- what is told so far, before the words of the rest, tells the whole
abbrev pub ToldBefore : Before → List Line → Before → List Line → List ℕ → Type 0
ToldBefore first lines before rest said = (more : List ℕ) → AreToldInTurn before rest more → AreToldInTurn first lines (said ++ more)

next : (first before : Before) (lines : List Line) (line : Line) (rest : List Line) (said own : List ℕ) → TellsLine before line own
    → ToldBefore first lines before (line ∷ rest) said → ToldBefore first lines (after line before) rest (said ++ own)
next first before lines line rest said own told so_far = λ more behind.
    subst (λ (text : List ℕ). AreToldInTurn first lines text) (sym (append_assoc said own more)) (so_far (own ++ more) (own, more, refl, told, behind))

-- once the line at this place is told
pub told_more : (first before : Before) (lines : List Line) (i : ℕ) (x : Line) → i < length lines → (said own : List ℕ) → TellsLine before (get_or lines i x) own
    → ToldBefore first lines before (drop i lines) said → ToldBefore first lines (after (get_or lines i x) before) (drop (i + 1) lines) (said ++ own)
told_more first before lines i x lt said own told so_far =
    next first before lines (get_or lines i x) (drop (i + 1) lines) said own told
    (subst (λ (ls : List Line). ToldBefore first lines before ls said)
    (drop-cons lines i x lt ∙ ap (λ (k : ℕ). get_or lines i x ∷ drop k lines) (sym (add-one i))) so_far)

-- where no line is left
pub told_whole : (first before : Before) (lines rest : List Line) (said : List ℕ) → length rest ≡ 0 → ToldBefore first lines before rest said → AreToldInTurn first lines said
told_whole first before lines [] said none so_far = subst (λ (text : List ℕ). AreToldInTurn first lines text) (append-nil said) (so_far [] refl)
told_whole first before lines (line ∷ rest) said none so_far = absurd (omega (arith, none))
