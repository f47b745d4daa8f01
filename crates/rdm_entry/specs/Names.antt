-- Parameters by their names, in upper or lower case.
use Rattle.std.specs.Prelude.{ℕ, ◌==◌, nat_le, List, length, map, Option, None, if◌then◌else◌}
use Rattle.std.specs.Char.{to_ascii_uppercase}
use Rattle.rdm_params.specs.Table.Names.{pid_named}

-- a letter in upper case, and an underline for a hyphen, as the standard prints names
abbrev pub as_printed : ℕ → ℕ
as_printed b = if b == 45 then 95 else to_ascii_uppercase b

-- the PID of the parameter of which this is the name, as the standard prints it or as people type it
unfoldable pub parameter_named : List ℕ → Option ℕ
parameter_named word = if nat_le (length word) 255 then pid_named (map as_printed word) else None
