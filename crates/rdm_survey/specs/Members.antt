-- What a document says of a fixture, key by key.
use Rattle.std.specs.Prelude.{ℕ, ◌+◌, ◌-◌, ◌==◌, List, [], ◌∷◌, ◌++◌, map, codes, decimal, Option, Some, None, if◌then◌else◌}
use Rattle.std.specs.List.{flat_map}
use Rattle.std.specs.Int.{w16, w32, to_be_bytes}
use Rattle.rdm_frame.specs.declared.uid.Uid.{Uid}
use Rattle.rdm_frame.specs.Addressing.{same_uid}
use Rattle.rdm_frame.specs.Digits.{digits}
use Rattle.rdm_frame.specs.UidText.{uid_text}
use Rattle.rdm_survey.specs.declared.device_info.DeviceInfo.{DeviceInfo}
use Rattle.rdm_survey.specs.declared.row.Row.{Row}
use Rattle.rdm_survey.specs.declared.row.StatusCounts.{StatusCounts}
use Rattle.rdm_survey.specs.declared.place.Clash.{Clash}
use Rattle.rdm_survey.specs.declared.place.Clash.TheVariants as clash
use Rattle.rdm_survey.specs.declared.partner.Partner.{Partner}
use Rattle.rdm_survey.specs.declared.partner.Partner.TheVariants as partner
use Rattle.rdm_survey.specs.declared.member.Cell.{Cell}
use Rattle.rdm_survey.specs.declared.member.Cell.TheVariants as cell
use Rattle.rdm_survey.specs.declared.member.Member.{Member}
use Rattle.rdm_survey.specs.Shown.{shown}

-- What stands under a key: nothing where the fixture didn't tell, a number, a word, or a list of words.
pub data Value : Type 0 where
  nothing : Value
  number : ℕ → Value
  word : List ℕ → Value
  words : List (List ℕ) → Value

-- a UID as it is written
unfoldable pub uid_word : Uid → List ℕ
uid_word uid = uid_text uid

-- an ID in four digits or in eight, behind `0x`
unfoldable pub id_word : ℕ → List ℕ
id_word id = 0x30 ∷ 0x78 ∷ digits (to_be_bytes w16 id)

unfoldable pub long_id_word : ℕ → List ℕ
long_id_word id = 0x30 ∷ 0x78 ∷ digits (to_be_bytes w32 id)

abbrev pub told_number : Option ℕ → Value
told_number None = nothing
told_number (Some n) = number n

abbrev pub told_text : Option (List ℕ) → Value
told_text None = nothing
told_text (Some text) = word (shown text)

-- what DEVICE_INFO tells, and what the status does
abbrev pub of_device : Option DeviceInfo → (DeviceInfo → Value) → Value
of_device None f = nothing
of_device (Some device) f = f device

abbrev pub of_status : Option StatusCounts → (StatusCounts → Value) → Value
of_status None f = nothing
of_status (Some status) f = f status

-- the last of so many slots from a start address on
abbrev pub last_slot : Option ℕ → ℕ → Value
last_slot None footprint = nothing
last_slot (Some first) footprint = if footprint == 0 then nothing else number (first + footprint - 1)

-- what a fixture clashes with, by one clash: slot 512, or the other place
abbrev pub other_of : Uid → Clash → List Partner
other_of uid (clash.PastEnd a) = if same_uid a.uid uid then partner.PastEnd ∷ [] else []
other_of uid (clash.Overlap a b) =
    (if same_uid a.uid uid then partner.Place b.uid b.sub ∷ [] else [])
    ++ (if same_uid b.uid uid then partner.Place a.uid a.sub ∷ [] else [])

abbrev pub partners : Uid → List Clash → List Partner
partners uid list = flat_map (other_of uid) list

-- `past 512`, the UID of a root, or that of a sub-device with a slash and its number behind it
abbrev pub sub_word : ℕ → List ℕ
sub_word sub = if sub == 0 then [] else 0x2F ∷ decimal sub

abbrev pub place_word : Uid → ℕ → List ℕ
place_word uid sub = uid_word uid ++ sub_word sub

abbrev pub partner_word : Partner → List ℕ
partner_word partner.PastEnd = codes "past 512"
partner_word (partner.Place uid sub) = place_word uid sub

-- The keys and what stands under them, in order.
unfoldable pub members : Row → List Partner → List (List ℕ × Value)
members row others =
    (codes "uid", word (uid_word row.uid))
    ∷ (codes "manufacturer", told_text row.manufacturer)
    ∷ (codes "model", told_text row.model)
    ∷ (codes "model_id", of_device row.device (λ d. word (id_word d.model_id)))
    ∷ (codes "category", of_device row.device (λ d. word (id_word d.category)))
    ∷ (codes "label", told_text row.label)
    ∷ (codes "address", of_device row.device (λ d. told_number d.address))
    ∷ (codes "last_address", of_device row.device (λ d. last_slot d.address d.footprint))
    ∷ (codes "footprint", of_device row.device (λ d. number d.footprint))
    ∷ (codes "personality", of_device row.device (λ d. number d.personality))
    ∷ (codes "personalities", of_device row.device (λ d. number d.personalities))
    ∷ (codes "personality_name", told_text row.personality)
    ∷ (codes "software", told_text row.software)
    ∷ (codes "software_id", of_device row.device (λ d. word (long_id_word d.software_id)))
    ∷ (codes "sub_devices", of_device row.device (λ d. number d.sub_devices))
    ∷ (codes "sensors", of_device row.device (λ d. number d.sensors))
    ∷ (codes "hours", told_number row.hours)
    ∷ (codes "errors", of_status row.status (λ s. number s.errors))
    ∷ (codes "warnings", of_status row.status (λ s. number s.warnings))
    ∷ (codes "clashes", words (map partner_word others))
    ∷ []

-- the keys, in order
unfoldable pub keys : List (List ℕ)
keys =
    codes "uid" ∷ codes "manufacturer" ∷ codes "model" ∷ codes "model_id" ∷ codes "category" ∷ codes "label" ∷ codes "address"
    ∷ codes "last_address" ∷ codes "footprint" ∷ codes "personality" ∷ codes "personalities" ∷ codes "personality_name"
    ∷ codes "software" ∷ codes "software_id" ∷ codes "sub_devices" ∷ codes "sensors" ∷ codes "hours" ∷ codes "errors"
    ∷ codes "warnings" ∷ codes "clashes" ∷ []

-- what is said of a fixture, among the rows of a survey
abbrev pub members_in : List Clash → Row → List (List ℕ × Value)
members_in list row = members row (partners row.uid list)

-- What a cell of the code stands for.
abbrev pub told : Cell → Value
told cell.Nothing = nothing
told (cell.Number n) = number n
told (cell.Id id) = word (id_word id)
told (cell.LongId id) = word (long_id_word id)
told (cell.Name uid) = word (uid_word uid)
told (cell.Text text) = word (shown text.now)
told (cell.Others list) = words (map partner_word list.now)

abbrev pub said : Member → List ℕ × Value
said m = (m.key.now, told m.cell)
