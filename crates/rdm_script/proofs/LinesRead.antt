-- The lines of the steps and of the setup, and whether a search is said, as far as a text is read.
use Rattle.std.proofs.Common.{◌≡◌, ℕ, ◌+◌, Bool, true, false, ◌||◌, if◌then◌else◌, List, [], ◌∷◌, ◌++◌, drop, Option, Some, None, refl, sym, ap, ◌∙◌, add-one, append_assoc}
use Rattle.std.proofs.lemmas.List.{append-nil}
use Rattle.std.specs.Option.{option_or}
use Rattle.std.specs.List.{list_any}
use Rattle.std.proofs.Math.Seq.{drop-cons}
use Rattle.rdm_script.specs.declared.grammar.line.Line.{Line}
use Rattle.rdm_script.specs.Told.{says_find, finds_after}
use Rattle.rdm_script.specs.StepLines.{step_line, set_line, step_lines_from, set_line_from}
use Rattle.rdm_script.proofs.Lines.{AtLine}
use Rattle.rdm_script.specs.declared.found.Finds.{Finds}
use Rattle.rdm_script.specs.declared.found.Finds.TheVariants.{Told, Untold}

drop_at : (said : List Line) (i : ℕ) (line : Line) (behind : List Line) → AtLine said i line behind → drop i said ≡ line ∷ behind
drop_at said i line behind here =
    let parts : drop i said ≡ _ ∷ drop (i + 1) said = rw add-one (drop-cons said i line here.lt) in
    rw here.rest (parts ∙ ap (λ (x : Line). x ∷ drop (i + 1) said) here.is)

or_assoc : (a b c : Option ℕ) → option_or (option_or a b) c ≡ option_or a (option_or b c)
or_assoc None b c = refl
or_assoc (Some x) b c = refl

or_none : (a : Option ℕ) → option_or a None ≡ a
or_none None = refl
or_none (Some x) = refl

-- ---- the steps

steps_behind : (said : List Line) (i : ℕ) (line : Line) (behind : List Line) (found all : List ℕ) → AtLine said i line behind → found ++ step_lines_from (i + 1) (drop i said) ≡ all
    → found ++ step_line (i + 1) line ++ step_lines_from (i + 1 + 1) behind ≡ all
steps_behind said i line behind found all here so_far =
    append_assoc found (step_line (i + 1) line) (step_lines_from (i + 1 + 1) behind) ∙ ap (λ (ls : List Line). found ++ step_lines_from (i + 1) ls) (sym (drop_at said i line behind here)) ∙ so_far

pub steps_more : (said : List Line) (i : ℕ) (line : Line) (behind : List Line) (found all : List ℕ) → AtLine said i line behind → found ++ step_lines_from (i + 1) (drop i said) ≡ all
    → found ++ step_line (i + 1) line ++ step_lines_from (i + 1 + 1) (drop (i + 1) said) ≡ all
steps_more said i line behind found all here so_far = rw (← here.rest) (steps_behind said i line behind found all here so_far)

pub steps_last : (said : List Line) (i : ℕ) (line : Line) (found all : List ℕ) → AtLine said i line [] → found ++ step_lines_from (i + 1) (drop i said) ≡ all → found ++ step_line (i + 1) line ≡ all
steps_last said i line found all here so_far = sym (append-nil (found ++ step_line (i + 1) line)) ∙ steps_behind said i line [] found all here so_far

-- ---- the setup

set_behind : (said : List Line) (i : ℕ) (line : Line) (behind : List Line) (found all : Option ℕ) → AtLine said i line behind → option_or found (set_line_from (i + 1) (drop i said)) ≡ all
    → option_or (option_or found (set_line (i + 1) line)) (set_line_from (i + 1 + 1) behind) ≡ all
set_behind said i line behind found all here so_far =
    or_assoc found (set_line (i + 1) line) (set_line_from (i + 1 + 1) behind) ∙ ap (λ (ls : List Line). option_or found (set_line_from (i + 1) ls)) (sym (drop_at said i line behind here)) ∙ so_far

pub set_more : (said : List Line) (i : ℕ) (line : Line) (behind : List Line) (found all : Option ℕ) → AtLine said i line behind → option_or found (set_line_from (i + 1) (drop i said)) ≡ all
    → option_or (option_or found (set_line (i + 1) line)) (set_line_from (i + 1 + 1) (drop (i + 1) said)) ≡ all
set_more said i line behind found all here so_far = rw (← here.rest) (set_behind said i line behind found all here so_far)

pub set_last : (said : List Line) (i : ℕ) (line : Line) (found all : Option ℕ) → AtLine said i line [] → option_or found (set_line_from (i + 1) (drop i said)) ≡ all → option_or found (set_line (i + 1) line) ≡ all
set_last said i line found all here so_far = sym (or_none (option_or found (set_line (i + 1) line))) ∙ set_behind said i line [] found all here so_far

-- ---- searches

-- whether a search is told, after these lines more
abbrev pub found_from : Finds → List Line → Finds
found_from finds lines = if list_any says_find lines then Told else finds

found_cases : (finds : Finds) (here later : Bool) → (if later then Told else (if here then Told else finds)) ≡ (if here || later then Told else finds)
found_cases finds true true = refl
found_cases finds true false = refl
found_cases finds false true = refl
found_cases finds false false = refl

found_with : (finds : Finds) (line : Line) (behind : List Line) → found_from (finds_after finds line) behind ≡ found_from finds (line ∷ behind)
found_with finds line behind = found_cases finds (says_find line) (list_any says_find behind)

finds_behind : (said : List Line) (i : ℕ) (line : Line) (behind : List Line) (found all : Finds) → AtLine said i line behind → found_from found (drop i said) ≡ all
    → found_from (finds_after found line) behind ≡ all
finds_behind said i line behind found all here so_far = found_with found line behind ∙ ap (found_from found) (sym (drop_at said i line behind here)) ∙ so_far

pub finds_more : (said : List Line) (i : ℕ) (line : Line) (behind : List Line) (found all : Finds) → AtLine said i line behind → found_from found (drop i said) ≡ all
    → found_from (finds_after found line) (drop (i + 1) said) ≡ all
finds_more said i line behind found all here so_far = rw (← here.rest) (finds_behind said i line behind found all here so_far)

pub finds_last : (said : List Line) (i : ℕ) (line : Line) (found all : Finds) → AtLine said i line [] → found_from found (drop i said) ≡ all → finds_after found line ≡ all
finds_last said i line found all here so_far = finds_behind said i line [] found all here so_far
