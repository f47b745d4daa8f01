-- The names of the reasons of a NACK. E1.20 table A-17.
use Rattle.std.specs.Prelude.{ℕ, List, [], ◌∷◌, take, drop, Option, Some, None, codes, if◌then◌else◌}
use Rattle.std.specs.Int.{w16}
use Rattle.std.specs.Option.{option_or}
use Rattle.std.specs.Str.{bytes_eq}
use Rattle.rdm_frame.specs.DigitReading.{number_in}

-- Each reason: its code and its name, which the table writes with `NR_` in front.
abbrev pub reasons : List (ℕ × List ℕ)
reasons =
    (0x0000, codes "UNKNOWN_PID") ∷
    (0x0001, codes "FORMAT_ERROR") ∷
    (0x0002, codes "HARDWARE_FAULT") ∷
    (0x0003, codes "PROXY_REJECT") ∷
    (0x0004, codes "WRITE_PROTECT") ∷
    (0x0005, codes "UNSUPPORTED_COMMAND_CLASS") ∷
    (0x0006, codes "DATA_OUT_OF_RANGE") ∷
    (0x0007, codes "BUFFER_FULL") ∷
    (0x0008, codes "PACKET_SIZE_UNSUPPORTED") ∷
    (0x0009, codes "SUB_DEVICE_OUT_OF_RANGE") ∷
    (0x000A, codes "PROXY_BUFFER_FULL") ∷ []

-- the code that stands beside a name in these rows
abbrev pub code_in : List (ℕ × List ℕ) → List ℕ → Option ℕ
code_in [] name = None
code_in (row ∷ rows) name = if bytes_eq name row.1 then Some row.0 else code_in rows name

-- a name without the `NR_` in front of it, if it has that
abbrev pub bare : List ℕ → List ℕ
bare name = if bytes_eq (take 3 name) (codes "NR_") then drop 3 name else name

-- the code of the reason that a word says: by its name, or by the four digits of its code
unfoldable pub reason_in : List ℕ → Option ℕ
reason_in word = option_or (code_in reasons (bare word)) (number_in w16 word)
