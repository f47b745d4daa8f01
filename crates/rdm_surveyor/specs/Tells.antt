-- What the reply to a question tells, or none: what a fixture rejects, needs time for, sends a part of or doesn't answer tells nothing.
-- E1.20 sections 6.3 and 10.5.1 to 10.8.1.
use Rattle.std.specs.Prelude.{ℕ, Bool, ◌&&◌, ◌==◌, nat_lt, if◌then◌else◌, List, drop, take, position, length, slice_index, Option, Some, None}
use Rattle.std.specs.Option.{option_and_then, option_map_or}
use Rattle.rdm_collector.specs.Replies.{Said, reply_in}
use Rattle.rdm_console.specs.Endings.{is_ack}
use Rattle.rdm_survey.specs.declared.device_info.DeviceInfo.{DeviceInfo}
use Rattle.rdm_survey.specs.DeviceInfos.{device_info_in, long_at}

-- the data of a response that is an ACK. Section 6.3.1.
abbrev pub ack_data : Said → Option (List ℕ)
ack_data said = if is_ack said.response then Some said.body else None

abbrev pub data_in : Option (List ℕ) → Option (List ℕ)
data_in None = None
data_in (Some reply) = option_and_then ack_data (reply_in reply)

abbrev pub is_nul : ℕ → Bool
is_nul slot = slot == 0

-- The characters of a text: those before its first NUL. A text ends with its frame, and has no NUL; some devices pad it with them.
-- Section 10.5.3.
abbrev pub characters_of : List ℕ → List ℕ
characters_of slots = option_map_or (λ end. take end slots) (position is_nul slots) slots

-- a text: 32 slots at most
abbrev pub text_of : List ℕ → Option (List ℕ)
text_of slots = if nat_lt 32 (length slots) then None else Some (characters_of slots)

-- What a reply to MANUFACTURER_LABEL tells, to DEVICE_MODEL_DESCRIPTION, DEVICE_LABEL or SOFTWARE_VERSION_LABEL. Sections 10.5.3 to
-- 10.5.5 and 10.5.9.
abbrev pub text_in : Option (List ℕ) → Option (List ℕ)
text_in reply = option_and_then text_of (data_in reply)

-- four slots of hours
abbrev pub hours_of : List ℕ → Option ℕ
hours_of slots = if length slots == 4 then Some (long_at slots 0) else None

-- What a reply to DEVICE_HOURS tells. Section 10.8.1.
abbrev pub hours_in : Option (List ℕ) → Option ℕ
hours_in reply = option_and_then hours_of (data_in reply)

-- What a reply to DEVICE_INFO tells. Section 10.5.1.
abbrev pub info_in : Option (List ℕ) → Option DeviceInfo
info_in reply = option_and_then device_info_in (data_in reply)

-- The personality that a fixture has now, if it has any. Section 10.5.1.
abbrev pub number_of : DeviceInfo → Option ℕ
number_of info = if nat_lt 0 info.personalities && nat_lt 0 info.personality then Some info.personality else None

abbrev pub personality_of : Option DeviceInfo → Option ℕ
personality_of device = option_and_then number_of device

-- The text that describes a personality: it stands behind its number and its two slots of footprint.
abbrev pub name_of : ℕ → List ℕ → Option (List ℕ)
name_of number slots = if nat_lt 2 (length slots) && (slice_index slots 0 == number) then text_of (drop 3 slots) else None

-- What a reply to DMX_PERSONALITY_DESCRIPTION tells of this personality. Section 10.6.2.
abbrev pub name_in : ℕ → Option (List ℕ) → Option (List ℕ)
name_in number reply = option_and_then (name_of number) (data_in reply)
