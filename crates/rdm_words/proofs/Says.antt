-- What says a line: one that is empty, one of a trace, a frame, and any other.
use Rattle.std.proofs.Common.{◌≡◌, ◌≢◌, ℕ, List, [], ◌∷◌, length, Some, None, refl, sym, ◌∙◌, arith}
use Rattle.std.proofs.lemmas.Bool.{ne_eqb}
use Rattle.rdm_trace.specs.declared.line.Line.{Line}
use Rattle.rdm_trace.specs.Reading.{line_in, said_by, told_by, first_word, behind_word, wire_in}
use Rattle.rdm_trace.specs.Traces.{is_remark}
use Rattle.rdm_words.specs.declared.before.Before.{Before}
use Rattle.rdm_words.specs.Said.{TellsLine, TellsBytes, Says, other_words}

pub empty : (line : List ℕ) → length line ≡ 0 → (before : Before) → Says before line (10 ∷ [])
empty line h before = rw h refl

none_in_empty : (line : List ℕ) → length line ≡ 0 → line_in line ≡ None
unfolding line_in said_by told_by first_word behind_word
none_in_empty [] h = refl
none_in_empty (b ∷ line) h = absurd (omega (arith, h))

read_some : (line : List ℕ) (said : Line) → line_in line ≡ Some said → length line ≢ 0
read_some line said h none = let clash : None ≡ Some said = sym (none_in_empty line none) ∙ h in absurd cc

pub trace : (line own : List ℕ) (said : Line) (before : Before) → line_in line ≡ Some said → TellsLine before said own → Says before line own
trace line own said before h told = rw (ne_eqb (length line) 0 (read_some line said h), h) told

pub wire : (line own bytes : List ℕ) → length line ≢ 0 → line_in line ≡ None → wire_in line ≡ Some bytes → TellsBytes bytes own → (before : Before) → Says before line own
wire line own bytes some no_line h told before = rw (ne_eqb (length line) 0 some, no_line, h) told

pub unread : (line : List ℕ) → length line ≢ 0 → line_in line ≡ None → wire_in line ≡ None → (before : Before) → Says before line (other_words (is_remark line) line)
unread line some no_line no_wire before = rw (ne_eqb (length line) 0 some, no_line, no_wire) refl
