-- Words in the columns of a table on a terminal.
use Rattle.std.specs.Prelude.{ℕ, ◌-◌, Bool, not, nat_lt, List, [], ◌∷◌, ◌++◌, length, filter, take, replicate, if◌then◌else◌}
use Rattle.std.specs.List.{flat_map}
use Rattle.rdm_frame.specs.Digits.{within}
use Rattle.rdm_survey.specs.declared.table.Width.{Width}
use Rattle.rdm_survey.specs.declared.table.Width.TheVariants as wide

-- a byte of UTF-8 that goes on with a character
abbrev pub goes_on : ℕ → Bool
goes_on b = within 0x80 b 0xBF

-- how many characters a text has
abbrev pub characters : List ℕ → ℕ
characters text = length (filter (λ b. not (goes_on b)) text)

-- Words in so many bytes and a space: cut, with a `~` at the end, if they are longer.
abbrev pub fitted : ℕ → List ℕ → List ℕ
fitted n words =
    if nat_lt n (length words) then take (n - 1) words ++ 0x7E ∷ 0x20 ∷ []
    else words ++ replicate (n - length words) 0x20 ++ 0x20 ∷ []

-- Words, and spaces behind them up to so many characters, and one more.
abbrev pub padded : ℕ → List ℕ → List ℕ
padded n words = words ++ replicate (n - characters words) 0x20 ++ 0x20 ∷ []

-- words in a column of this width
abbrev pub placed : Width → List ℕ → List ℕ
placed (wide.Cut n) words = fitted n words
placed (wide.AtLeast n) words = padded n words
placed wide.Rest words = words

-- A line with what stands in these columns.
abbrev pub line_of : {C : Type 0} → (C → List ℕ) → List C → List ℕ
line_of {C} place columns = flat_map place columns ++ 0x0A ∷ []
