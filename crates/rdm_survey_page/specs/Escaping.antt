-- How a text stands between the tags of HTML, and how it is read from there. HTML Living Standard, sections 13.1.2.1 and 13.1.4.
use Rattle.std.specs.Prelude.{◌≢◌, ℕ, ◌==◌, ◌||◌, Bool, List, [], ◌∷◌, ◌++◌, codes, Option, Some, None, option_map, option_and_then, if◌then◌else◌}
use Rattle.std.specs.List.{flat_map}
use Rattle.std.specs.Str.{bytes_eq}

-- A byte that means something as markup stands as a reference, and any other as itself.
unfoldable pub escaped_byte : ℕ → List ℕ
escaped_byte b =
    if b == 0x26 then codes "&amp;"
    else if b == 0x3C then codes "&lt;"
    else if b == 0x3E then codes "&gt;"
    else if b == 0x22 then codes "&quot;"
    else b ∷ []

abbrev pub escaped : List ℕ → List ℕ
escaped text = flat_map escaped_byte text

-- `<`, `>` or `"`: a byte that begins or ends a tag, or the value of an attribute
abbrev pub is_markup : ℕ → Bool
is_markup b = (b == 0x3C) || (b == 0x3E) || (b == 0x22)

-- a byte that is none of these
abbrev pub IsPlain : ℕ → Type 0
IsPlain b = (b ≢ 0x3C) × (b ≢ 0x3E) × (b ≢ 0x22)

-- the byte that a reference of this name stands for
abbrev pub named : List ℕ → Option ℕ
named name =
    if bytes_eq name (codes "amp") then Some 0x26
    else if bytes_eq name (codes "lt") then Some 0x3C
    else if bytes_eq name (codes "gt") then Some 0x3E
    else if bytes_eq name (codes "quot") then Some 0x22
    else None

-- What a strict reader reads, outside a reference or behind so much of its name. It refuses markup, and a `&` that begins none of these
-- references.
abbrev pub reading : Option (List ℕ) → List ℕ → Option (List ℕ)
reading None [] = Some []
reading None (b ∷ text) =
    if b == 0x26 then reading (Some []) text
    else if is_markup b then None
    else option_map (λ more. b ∷ more) (reading None text)
reading (Some name) [] = None
reading (Some name) (b ∷ text) =
    if b == 0x3B then option_and_then (λ c. option_map (λ more. c ∷ more) (reading None text)) (named name)
    else reading (Some (name ++ b ∷ [])) text

-- What a strict reader reads of a text between tags, or None if it refuses it.
abbrev pub unescaped : List ℕ → Option (List ℕ)
unescaped text = reading None text
