-- What the answers to DISC_MUTE and DISC_UN_MUTE tell of a device, where its profile says nothing else. E1.20 section 7.6.
use Rattle.std.specs.Prelude.{Bool, true, false, Option, Some, None, not}
use Rattle.rdm_frame.specs.declared.uid.Uid.{Uid}
use Rattle.rdm_frame.specs.Addressing.{is_broadcast}
use Rattle.rdm_profile.specs.declared.profile.mute_reply.MuteReply.{MuteReply}

-- it has one port, answers for itself, and can work
abbrev pub plain_reply : MuteReply
plain_reply = record { proxied_device = false; boot_loader = false; binding = None }

-- whether a binding UID, if there is one, is that of one port
abbrev pub can_bind : Option Uid → Bool
can_bind None = true
can_bind (Some uid) = not (is_broadcast uid)
