-- The names of the standards' parameters, whether or not the table has them. E1.20 table A-3; E1.37-1.
use Rattle.std.specs.Prelude.{ℕ, ◌==◌, List, [], ◌∷◌, map, Option, Some, None, if◌then◌else◌, codes}
use Rattle.std.specs.Option.{option_map, option_or}
use Rattle.std.specs.Str.{bytes_eq}
use Rattle.rdm_frame.specs.Names.{name_in}
use Rattle.rdm_profile.specs.Standards.{standards}
use Rattle.rdm_table.specs.Table.Kinds.{pid_of, name_of, kind_named, kind_with}

-- the PID that stands beside a name in these rows
abbrev pub named_in : List (ℕ × List ℕ) → List ℕ → Option ℕ
named_in [] name = None
named_in (row ∷ rows) name = if bytes_eq name row.1 then Some row.0 else named_in rows name

-- the parameters of E1.20 that aren't in the table, and that a profile can't add
abbrev pub other_names : List (ℕ × List ℕ)
other_names =
    (0x0001, codes "DISC_UNIQUE_BRANCH") ∷
    (0x0002, codes "DISC_MUTE") ∷
    (0x0003, codes "DISC_UN_MUTE") ∷
    (0x0010, codes "PROXIED_DEVICES") ∷
    (0x0011, codes "PROXIED_DEVICE_COUNT") ∷
    (0x0051, codes "PARAMETER_DESCRIPTION") ∷ []

-- those that a profile can add
abbrev pub lent_names : List (ℕ × List ℕ)
lent_names = map (λ s. (s.pid, s.name)) standards

-- the PID of the parameter with this name
unfoldable pub pid_named : List ℕ → Option ℕ
pid_named name = option_or (option_map pid_of (kind_named name)) (option_or (named_in other_names name) (named_in lent_names name))

-- the name of the parameter with this PID
abbrev pub parameter_name : ℕ → Option (List ℕ)
parameter_name pid = option_or (option_map name_of (kind_with pid)) (option_or (name_in other_names pid) (name_in lent_names pid))
