-- The answer to DISC_MUTE. E1.20 section 7.6.
use Rattle.std.specs.Prelude.{ℕ, Bool, nat_le, ◌==◌, ◌&&◌, List, length, map, Option, Some, None, if◌then◌else◌}
use Rattle.std.specs.Option.{option_and_then}
use Rattle.std.specs.List.{list_any}
use Rattle.rdm_frame.specs.declared.uid.Uid.{Uid}
use Rattle.rdm_frame.specs.declared.frame.Frame.{Frame}
use Rattle.rdm_frame.specs.Addressing.{same_uid}
use Rattle.rdm_frame.specs.Reading.{frame_in, word_at, uid_at}
use Rattle.rdm_search.specs.declared.found.Found.{Found}

-- A DISCOVERY_COMMAND_RESPONSE of that device to DISC_MUTE, of the type ACK.
abbrev pub is_mute_answer : Uid → Frame → Bool
is_mute_answer uid f = (f.class == 0x11) && ((f.pid == 0x0002) && ((f.port == 0x00) && same_uid f.src uid))

-- What the answer says: the control field, and the binding UID of a device with more than one port.
abbrev pub found_in : Frame → Found
found_in f = record {
  uid = f.src;
  control = if nat_le 2 (length f.body) then word_at f.body 0 else 0;
  binding = if nat_le 8 (length f.body) then Some (uid_at f.body 2) else None;
}

-- what the answer of that device to its mute says, if these bytes are one
abbrev pub mute_answer : Uid → List ℕ → Option Found
mute_answer uid heard = option_and_then (λ f. if is_mute_answer uid f then Some (found_in f) else None) (frame_in heard)

abbrev pub found_uids : List Found → List Uid
found_uids found = map (λ x. x.uid) found

abbrev pub knows : List Found → Uid → Bool
knows found uid = list_any (λ x. same_uid x.uid uid) found

-- the answer of a device that wasn't found before
abbrev pub newcomer : List Found → Uid → List ℕ → Option Found
newcomer found uid heard = if knows found uid then None else mute_answer uid heard
