-- The first five reply rules: which of the bytes that are heard are a request to the device. The first rule that applies
-- decides.
use Rattle.std.specs.Prelude.{◌≡◌, ℕ, ◌≤◌, Bool, true, false, List, length, slice_index, Option, Some, None, ◌==◌, ◌&&◌, if◌then◌else◌}
use Rattle.rdm_frame.specs.declared.uid.Uid.{Uid}
use Rattle.rdm_frame.specs.declared.frame.Frame.{Frame}
use Rattle.rdm_frame.specs.Addressing.{is_broadcast, is_addressed}
use Rattle.rdm_frame.specs.Reading.{uid_at}

-- What is taken up of what was heard. A branch is from a lower UID to an upper one; a muting is a mute (true) or an
-- un-mute (false).
pub data Request : Type 0 where
  Ignored : Request
  Branch : Uid → Uid → Request
  Muting : Bool → Frame → Request
  Get : Frame → Request
  Set : Frame → Request

-- Rule 4. The discovery commands, which are for the root alone: DISC_UNIQUE_BRANCH with two UIDs, DISC_MUTE and
-- DISC_UN_MUTE without data. Sections 7.5 and 7.6.
unfoldable pub discovery_of : Frame → Request
discovery_of f =
    if f.sub == 0 then
    if (f.pid == 0x0001) && (length f.body == 12) then Branch (uid_at f.body 0) (uid_at f.body 6)
    else if (f.pid == 0x0002) && (length f.body == 0) then Muting true f
    else if (f.pid == 0x0003) && (length f.body == 0) then Muting false f else Ignored
    else Ignored

-- Rule 5. A GET to more than one device is ignored.
abbrev pub get_of : Frame → Request
get_of f = if is_broadcast f.dst then Ignored else Get f

-- Rule 2: a frame for another device is ignored. Rule 3: so is a command class that isn't a request's. Table A-1.
abbrev pub request_of : Uid → Frame → Request
request_of own f =
    if is_addressed own f.dst then
    if f.class == 0x10 then discovery_of f
    else if f.class == 0x20 then get_of f
    else if f.class == 0x30 then Set f else Ignored
    else Ignored

-- Rule 1: what isn't a frame is ignored.
abbrev pub request_in : Uid → Option Frame → Request
request_in own None = Ignored
request_in own (Some f) = request_of own f

-- The bytes of a request tell its source and its transaction number. Section 6.2.
abbrev pub IsFrom : List ℕ → Frame → Type 0
IsFrom bytes f = (16 ≤ length bytes) × (uid_at bytes 9 ≡ f.src) × (slice_index bytes 15 ≡ f.tn)
