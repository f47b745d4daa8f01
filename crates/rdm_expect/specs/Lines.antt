-- The words of a line of a script, and how many requests it sends.
use Rattle.std.specs.Borrow.{Bor}
use Rattle.std.specs.Prelude.{ℕ, Bool, ◌==◌, ◌||◌, not, List, [], ◌∷◌, length, map, filter, codes, if◌then◌else◌}
use Rattle.std.specs.Char.{to_ascii_uppercase}
use Rattle.std.specs.List.{slice_split}
use Rattle.std.specs.Str.{bytes_eq}
use Rattle.std.specs.Str.Lines.{strip_carriage_return as without_return}

-- spaces and tabs stand between words
abbrev pub is_blank : ℕ → Bool
is_blank b = (b == 32) || (b == 9)

abbrev pub is_word : List ℕ → Bool
is_word piece = not (length piece == 0)

-- a piece where it is a word, and else nothing
unfoldable pub kept_word : Bor (List ℕ) → List (Bor (List ℕ))
kept_word piece = if is_word piece.now then piece ∷ [] else []

-- the letters of a line in upper case, without the carriage return at its end
abbrev pub capitals : List ℕ → List ℕ
capitals line = map to_ascii_uppercase (without_return line)

-- The words of a line, in upper case: whether they are written so doesn't matter.
unfoldable pub words_of : List ℕ → List (List ℕ)
words_of line = filter is_word (slice_split is_blank (capitals line))

-- a line whose first word is this name
abbrev pub begins : List (List ℕ) → List ℕ → Bool
begins [] name = bytes_eq [] name
begins (word ∷ more) name = bytes_eq word name

-- How many requests a line of a script with these words sends: a command or a poll is one, and a search sends four.
unfoldable pub sent_by : List (List ℕ) → ℕ
sent_by words =
    if begins words (codes "GET") || begins words (codes "SET") || begins words (codes "DISC") || begins words (codes "COLLECT") then 1
    else if begins words (codes "FIND") then 4 else 0
