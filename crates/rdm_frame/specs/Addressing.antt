-- Which devices a UID addresses. E1.20 section 6.2.4.
use Rattle.std.specs.Prelude.{ℕ, Bool, ◌==◌, ◌&&◌, ◌||◌}
use Rattle.rdm_frame.specs.declared.uid.Uid.{Uid}

-- the two are one UID
abbrev pub same_uid : Uid → Uid → Bool
same_uid u v = (u.maker == v.maker) && (u.device == v.device)

-- mmmm:FFFFFFFF addresses every device of the manufacturer mmmm.
abbrev pub all_of : ℕ → Uid
all_of maker = record { maker = maker; device = 0xFFFFFFFF }

-- FFFF:FFFFFFFF addresses every device.
abbrev pub all_devices : Uid
all_devices = all_of 0xFFFF

-- a UID that addresses more than one device
abbrev pub is_broadcast : Uid → Bool
is_broadcast u = u.device == 0xFFFFFFFF

-- A device with its own UID is addressed by that UID, by the broadcast to all devices, and by the broadcast to the
-- devices of its manufacturer.
abbrev pub is_addressed : Uid → Uid → Bool
is_addressed own destination =
    same_uid destination own || (is_broadcast destination && ((destination.maker == 0xFFFF) || (destination.maker == own.maker)))
