-- The reasons of a refusal. E1.20 section 6.3.4.
use Rattle.std.specs.Prelude.{ℕ, List, [], ◌∷◌, Option, codes}
use Rattle.rdm_frame.specs.declared.nack.Nack.{Nack}
use Rattle.rdm_frame.specs.Names.{name_in}
use Rattle.rdm_frame.specs.declared.nack.Nack.TheVariants.{UnknownPid, FormatError, UnsupportedCommandClass, DataOutOfRange, WriteProtect, BufferFull, SubDeviceOutOfRange}

-- the code of each reason, from table A-17
abbrev pub nack_code : Nack → ℕ
nack_code UnknownPid = 0
nack_code FormatError = 1
nack_code UnsupportedCommandClass = 5
nack_code DataOutOfRange = 6
nack_code WriteProtect = 4
nack_code BufferFull = 7
nack_code SubDeviceOutOfRange = 9

-- every reason of table A-17 in words, also those that no responder here gives
abbrev pub reasons : List (ℕ × List ℕ)
reasons =
    (0x0000, codes "unknown PID") ∷
    (0x0001, codes "format error") ∷
    (0x0002, codes "hardware fault") ∷
    (0x0003, codes "proxy reject") ∷
    (0x0004, codes "write protect") ∷
    (0x0005, codes "unsupported command class") ∷
    (0x0006, codes "data out of range") ∷
    (0x0007, codes "buffer full") ∷
    (0x0008, codes "packet size unsupported") ∷
    (0x0009, codes "sub-device out of range") ∷
    (0x000A, codes "proxy buffer full") ∷ []

-- the reason of a code in words
abbrev pub reason_name : ℕ → Option (List ℕ)
reason_name code = name_in reasons code
