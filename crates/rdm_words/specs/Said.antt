-- What the words of a text are: no line of it is lost. The lines are those that `lines` of the standard library gives.
use Rattle.std.specs.Prelude.{◌≡◌, ◌≢◌, ℕ, Bool, true, false, ◌==◌, List, [], ◌∷◌, ◌++◌, length, map, Option, Some, None, codes}
use Rattle.rdm_trace.specs.declared.line.Line.{Line}
use Rattle.rdm_trace.specs.Reading.{line_in, wire_in}
use Rattle.rdm_trace.specs.Traces.{is_remark}
use Rattle.rdm_words.specs.declared.before.Before.{Before}
use Rattle.rdm_words.specs.Before.{after}
use Rattle.rdm_words.specs.Plain.{IsPlain, escaped, shown}
use Rattle.rdm_words.specs.Fixed.{AreWordsOfBytes, AreWordsOfLine}
use Rattle.rdm_words.specs.FrameFacts.{AreFactsOfBytes, AreFactsOfLine}
use Rattle.rdm_words.specs.Naming.{NamesInLine}
use Rattle.rdm_words.specs.Unread.{AreLastOfBytes, AreLastOfLine}

-- These bytes are one or more whole lines of text, in which something stands that is plain.
pub record IsTold (own : List ℕ) : Type 0 where
  pub words : List ℕ
  pub whole : own ≡ words ++ 10 ∷ []
  pub some : words ≢ []
  pub plain : IsPlain own

-- If it is fixed which words are said, they stand there, and nothing else does; if it is fixed which are the last, these stand at the end; and
-- if facts are to be named, each stands there as it is written, one behind the other.
pub record Tells (AreWords : List ℕ → Type 0) (AreLast : List ℕ → Type 0) (AreFacts : List (List ℕ) → Type 0) (own : List ℕ) : Type 0 where
  pub told : IsTold own
  pub fixed : (words : List ℕ) → AreWords words → own ≡ words ++ 10 ∷ []
  pub last : (words : List ℕ) → AreLast words → (front : List ℕ) × (own ≡ front ++ (words ++ 10 ∷ []))
  pub named : (facts : List (List ℕ)) → AreFacts facts → NamesInLine (map shown facts) own

abbrev pub TellsBytes : List ℕ → List ℕ → Type 0
TellsBytes bytes own = Tells (λ words. AreWordsOfBytes bytes words) (λ words. AreLastOfBytes bytes words) (λ facts. AreFactsOfBytes bytes facts) own

abbrev pub TellsLine : Before → Line → List ℕ → Type 0
TellsLine before line own = Tells (λ words. AreWordsOfLine before line words) (λ words. AreLastOfLine line words) (λ facts. AreFactsOfLine line facts) own

-- a line that says nothing of a bus: a remark stands as it is
abbrev pub other_words : Bool → List ℕ → List ℕ
other_words true line = escaped line ++ 10 ∷ []
other_words false line = codes "not read: " ++ escaped line ++ 10 ∷ []

-- by whether the line is empty, which line of a trace it is, and of which frame it has the digits
abbrev pub SaysBy : Before → Bool → Option Line → Option (List ℕ) → List ℕ → List ℕ → Type 0
SaysBy before true said frame line own = own ≡ 10 ∷ []
SaysBy before false (Some said) frame line own = TellsLine before said own
SaysBy before false None (Some bytes) line own = TellsBytes bytes own
SaysBy before false None None line own = own ≡ other_words (is_remark line) line

-- These bytes say a line, by what went before it: an empty one stays empty, one that is read has its words, and any other stands there
-- escaped.
abbrev pub Says : Before → List ℕ → List ℕ → Type 0
Says before line own = SaysBy before (length line == 0) (line_in line) (wire_in line) line own

-- what went before the line that follows this one: a line that isn't one of a trace changes nothing
abbrev pub behind : Option Line → Before → Before
behind None before = before
behind (Some said) before = after said before

-- These bytes say the lines, one after the other: each line has its own part, in order, and nothing else stands there.
abbrev pub SayInTurn : Before → List (List ℕ) → List ℕ → Type 0
SayInTurn before [] said = said ≡ []
SayInTurn before (line ∷ lines) said =
    (own : List ℕ) × (rest : List ℕ) × (said ≡ own ++ rest) × Says before line own × SayInTurn (behind (line_in line) before) lines rest

-- The words of lines of a trace, one after the other.
abbrev pub AreToldInTurn : Before → List Line → List ℕ → Type 0
AreToldInTurn before [] said = said ≡ []
AreToldInTurn before (line ∷ lines) said =
    (own : List ℕ) × (rest : List ℕ) × (said ≡ own ++ rest) × TellsLine before line own × AreToldInTurn (after line before) lines rest
