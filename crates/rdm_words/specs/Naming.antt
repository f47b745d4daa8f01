-- What words name: facts, each as its text, in an order. What stands between them is free.
use Rattle.std.specs.Prelude.{◌≡◌, ◌≢◌, ℕ, Bool, true, not, ◌==◌, ◌&&◌, ◌||◌, List, [], ◌∷◌, ◌++◌}
use Rattle.rdm_frame.specs.Digits.{within}
use Rattle.rdm_words.specs.Plain.{is_printable}

-- a letter, a digit, or the sign of a number
abbrev pub is_of_word : ℕ → Bool
is_of_word b = within 48 b 57 || (within 65 b 90 || (within 97 b 122 || (b == 0x2D)))

-- A byte that ends a word: it is printed or ends a line, and is none of these.
abbrev pub is_apart : ℕ → Bool
is_apart b = (is_printable b || (b == 0x0A)) && not (is_of_word b)

-- There is nothing, or such a byte first.
abbrev pub BeginsApart : List ℕ → Type 0
BeginsApart [] = Unit {0}
BeginsApart (b ∷ bytes) = is_apart b ≡ true

-- Each fact stands in the words, one behind the other, and as a whole: `1` doesn't stand in `10`, nor in `-1`.
abbrev pub Names : List (List ℕ) → List ℕ → Type 0
Names [] words = Unit {0}
Names (fact ∷ facts) words =
    (front : List ℕ) × (before : ℕ) × (rest : List ℕ) × (words ≡ front ++ (before ∷ (fact ++ rest))) × (is_apart before ≡ true) × BeginsApart rest
    × Names facts rest

-- The same of words at the beginning of a line, behind the end of the line before.
abbrev pub NamesInLine : List (List ℕ) → List ℕ → Type 0
NamesInLine facts words = Names facts (10 ∷ words)

-- Words are put behind others and name these facts. They begin with a byte that ends a word, so that no fact before them goes on.
pub record AddsNames (facts : List (List ℕ)) (old new : List ℕ) : Type 0 where
  pub words : List ℕ
  pub whole : new ≡ old ++ words
  pub begins : BeginsApart words
  pub named : Names facts words

-- Words are put behind others, are some, and name these facts in a line of their own.
pub record SaysFacts (facts : List (List ℕ)) (old new : List ℕ) : Type 0 where
  pub words : List ℕ
  pub whole : new ≡ old ++ words
  pub some : words ≢ []
  pub named : NamesInLine facts words

-- The same, of words that may be none.
pub record PutsFacts (facts : List (List ℕ)) (old new : List ℕ) : Type 0 where
  pub words : List ℕ
  pub whole : new ≡ old ++ words
  pub named : NamesInLine facts words
