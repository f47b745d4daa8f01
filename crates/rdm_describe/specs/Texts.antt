-- What a fixture's text becomes in a file.
use Rattle.std.specs.Prelude.{ℕ, ◌==◌, ◌&&◌, Bool, not, nat_le, nat_lt, ◌||◌, List, map, take, drop, position, length, if◌then◌else◌}
use Rattle.std.specs.List.{list_all}
use Rattle.std.specs.Option.{option_map_or}

-- Printable ASCII can stand in a file.
abbrev pub is_printable : ℕ → Bool
is_printable c = nat_le 0x20 c && nat_le c 0x7E

-- another character is a question mark there
abbrev pub printed : ℕ → ℕ
printed c = if is_printable c then c else 0x3F

abbrev pub is_nul : ℕ → Bool
is_nul c = c == 0

-- The characters of a text: those before its first NUL, since some devices pad their texts with NULs.
abbrev pub characters_of : List ℕ → List ℕ
characters_of slots = option_map_or (λ end. take end slots) (position is_nul slots) slots

-- the first 32 characters
abbrev pub text_of : List ℕ → List ℕ
text_of slots = map printed (take 32 (characters_of slots))

-- whether these characters are others in the file
abbrev pub are_others : List ℕ → Bool
are_others characters = nat_lt 32 (length characters) || not (list_all is_printable characters)

-- whether the text in the file is another than what the fixture told, which may end with NULs
abbrev pub is_altered : List ℕ → Bool
is_altered slots = are_others (characters_of slots) || not (list_all is_nul (drop (length (characters_of slots)) slots))
