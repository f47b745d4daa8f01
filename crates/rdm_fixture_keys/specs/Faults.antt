-- What a refusal tells of a document: all of it but the line.
use Rattle.std.specs.Prelude.{ℕ, ◌-◌, if◌then◌else◌, nat_le, List, [], ◌∷◌, ◌++◌, length, map, chars, encode_utf8, codes, Option, Some, None, option_map}
use Rattle.std.specs.Char.{is_control}
use Rattle.rdm_fixture_keys.specs.declared.refusal.Refusal.{Refusal}
use Rattle.rdm_fixture_keys.specs.declared.refusal.Section.{Section}
use Rattle.rdm_fixture_keys.specs.declared.refusal.Section.TheVariants.{Top}
use Rattle.rdm_fixture_keys.specs.declared.refusal.Wanted.{Wanted}

-- ---- the names of keys

-- a control character is shown as `?`
abbrev pub shown_character : ℕ → ℕ
shown_character c = if is_control c then 0x3F else c

-- as many of the characters as fit in `room` bytes
abbrev pub kept : ℕ → List ℕ → List ℕ
kept room [] = []
kept room (c ∷ cs) =
    if nat_le (length (encode_utf8 c)) room then encode_utf8 c ++ kept (room - length (encode_utf8 c)) cs else []

-- the name by which a key is shown: one of more than 40 bytes is cut to 38, and ends in `..`
unfoldable pub shown : List ℕ → List ℕ
shown key =
    if nat_le (length key) 40 then kept 40 (map shown_character (chars key))
    else kept 38 (map shown_character (chars key)) ++ codes ".."

-- ---- the faults

-- Something is wanted of a key: in this table, in an entry of a list (of this name and number) or in none.
pub record Fault : Type 0 where
  pub section : Section
  pub entry : Option (List ℕ × ℕ)
  pub key : List ℕ
  pub wanted : Wanted

-- of a key of the very table that is looked at
abbrev pub fault : List ℕ → Wanted → Fault
fault key wanted = record { section = Top; entry = None; key = shown key; wanted = wanted }

-- the same in an entry of a list
abbrev pub in_entry : List ℕ → ℕ → Fault → Fault
in_entry list number f = record f { entry = Some (shown list, number) }

-- the same in another table
abbrev pub in_section : Section → Fault → Fault
in_section section f = record f { section = section }

-- what the refusal tells
abbrev pub told : Refusal → Fault
told e = record {
  section = e.section;
  entry = option_map (λ x. (x.list.bytes, x.number)) e.entry;
  key = e.key.bytes;
  wanted = e.wanted;
}
