-- The number that orders UIDs. E1.20 sections 6.2.4 and 6.2.5.
use Rattle.std.specs.Prelude.{ℕ, ◌+◌, ◌*◌, ◌^◌}
use Rattle.rdm_frame.specs.declared.uid.Uid.{Uid}

-- a UID as one 48-bit number: its manufacturer ID above its device ID
abbrev pub uid_number : Uid → ℕ
uid_number u = u.maker * 2 ^ 32 + u.device
