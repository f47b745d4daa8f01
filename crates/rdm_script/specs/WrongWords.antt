-- Which word of a faulty line is wrong, and at which column it begins. `d` is the dialect of the script, and `begun` tells whether
-- a line before says anything. Words are counted from 0, columns in bytes from 1.
use Rattle.std.specs.Prelude.{◌≡◌, ◌≢◌, ℕ, ◌+◌, ◌-◌, Bool, not, List, [], ◌++◌, length, drop, take, slice_get, Some, None, ◌⊎◌}
use Rattle.std.specs.List.{list_all}
use Rattle.rdm_script.specs.Dialects.{Dialect}
use Rattle.rdm_script.specs.declared.dialect.Spelling.{Spelling}
use Rattle.rdm_script.specs.declared.grammar.line.Line.TheVariants.{Faulty}
use Rattle.rdm_script.specs.Grammar.{fault_in, is_skipped, line_at, lines_of, words_of}

-- A line has these words, and isn't faulty.
abbrev pub AreLine : Dialect → Bool → List (List ℕ) → Type 0
AreLine d begun words = line_at d begun words ≢ Faulty

-- These words say what goes wrong with a transaction.
abbrev pub AreFault : List (List ℕ) → Type 0
AreFault words = fault_in words ≢ None

-- What is wanted can begin with these words: it is there with some words more behind them.
abbrev pub CanBegin : (List (List ℕ) → Type 0) → List (List ℕ) → Type 0
CanBegin Wanted front = (more : List (List ℕ)) × Wanted (front ++ more)

-- The first wrong word where something else is wanted: this can begin with the words before it, and the word is missing, or nothing
-- that is wanted begins with those and with it.
pub record IsFirstWrong (Wanted : List (List ℕ) → Type 0) (words : List (List ℕ)) (index : ℕ) : Type 0 where
  pub front : CanBegin Wanted (take index words)
  pub wrong : (index ≡ length words) ⊎ (CanBegin Wanted (take (index + 1) words) → ⊥)

-- Where a word of a line begins: what is left of the line from this byte on has the words from this one on, and begins with it.
pub record BeginsAt (spelling : Spelling) (line : List ℕ) (index at : ℕ) (word : List ℕ) : Type 0 where
  pub at_index : slice_get (words_of spelling line) index ≡ Some word
  pub behind : words_of spelling (drop at line) ≡ drop index (words_of spelling line)
  pub begins : take (length word) (drop at line) ≡ word

-- The column at which a word begins, with the first 40 bytes of the word, or the end of the line, where it is missing.
abbrev pub IsShownAt : Spelling → List ℕ → ℕ → ℕ → List ℕ → Type 0
IsShownAt spelling line index column shown =
    ((at : ℕ) × (word : List ℕ) × BeginsAt spelling line index at word × (column ≡ at + 1) × (shown ≡ take 40 word))
    ⊎ ((index ≡ length (words_of spelling line)) × (column ≡ length line + 1) × (shown ≡ []))

-- A faulty line is refused at its first wrong word.
abbrev pub IsRefusedAt : Dialect → Bool → List ℕ → ℕ → List ℕ → Type 0
IsRefusedAt d begun line column shown =
    (index : ℕ) × IsFirstWrong (AreLine d begun) (words_of d.spelling line) index × IsShownAt d.spelling line index column shown

-- One of these lines says something: it isn't skipped.
abbrev pub is_begun : Dialect → List (List ℕ) → Bool
is_begun d lines = not (list_all (λ line. is_skipped (words_of d.spelling line)) lines)

-- The line of a text with this number, counted from 1, is refused at this column: there its first wrong word begins.
abbrev pub IsRefused : Dialect → List ℕ → ℕ → ℕ → List ℕ → Type 0
IsRefused d text number column shown =
    (line : List ℕ) × (slice_get (lines_of text) (number - 1) ≡ Some line)
    × IsRefusedAt d (is_begun d (take (number - 1) (lines_of text))) line column shown
