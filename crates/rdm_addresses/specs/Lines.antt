-- A proposal as a table, a line for each device.
use Rattle.std.specs.Prelude.{ℕ, ◌-◌, ◌==◌, List, [], ◌∷◌, ◌++◌, length, replicate, codes, decimal, Some, if◌then◌else◌}
use Rattle.rdm_survey.specs.Members.{uid_word}
use Rattle.rdm_survey.specs.Table.{range_words}
use Rattle.rdm_addresses.specs.declared.assignment.Assignment.{Assignment}

-- words in at least so many characters, and a space
abbrev pub padded : ℕ → List ℕ → List ℕ
padded n words = words ++ replicate (n - length words) 0x20 ++ 0x20 ∷ []

-- `root`, or the number of a sub-device
abbrev pub sub_words : ℕ → List ℕ
sub_words sub = if sub == 0 then codes "root" else decimal sub

-- the slots from a start address on, as `5-9`
abbrev pub slots_words : ℕ → ℕ → List ℕ
slots_words first footprint = range_words (Some first) footprint

unfoldable pub heading_line : List ℕ
heading_line = codes "UID           Sub   Slots   Was\n"

-- The UID, which device of the fixture it is, the slots that it is to take, and those that it takes.
abbrev pub assignment_line : Assignment → List ℕ
assignment_line a =
    padded 13 (uid_word a.uid) ++ padded 5 (sub_words a.sub) ++ padded 7 (slots_words a.address a.footprint)
    ++ slots_words a.was a.footprint ++ 0x0A ∷ []
