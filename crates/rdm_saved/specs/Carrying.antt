-- What values are carried over from an image of another version of the same model: those that both profiles know, and that the device can
-- have.
use Rattle.std.specs.Prelude.{ℕ, zero, suc, ◌+◌, ◌*◌, ◌==◌, Bool, true, false, ◌&&◌, ◌||◌, not, nat_le, List, [], ◌∷◌, ◌++◌, map, length, take, drop, slice_index, bytes_eq, Option, Some, None, find, if◌then◌else◌}
use Rattle.std.specs.List.{list_any}
use Rattle.std.specs.Option.{option_map_or}
use Rattle.rdm_profile.specs.declared.profile.Profile.{Profile}
use Rattle.rdm_profile.specs.declared.profile.own.ParameterDef.{ParameterDef}
use Rattle.rdm_profile.specs.declared.profile.own.Shape.{Shape}
use Rattle.rdm_profile.specs.declared.profile.own.Shape.TheVariants as shapes
use Rattle.rdm_profile.specs.declared.value.Value.TheVariants.{Byte, Word}
use Rattle.rdm_profile.specs.Forms.{byte, word, value_of}
use Rattle.rdm_profile.specs.OwnParameters.{form_of, is_within}
use Rattle.rdm_profile.specs.Values.{front_word, word_slots}
use Rattle.rdm_added.specs.Added.{is_pid_of}
use Rattle.rdm_added.specs.Map.{Entry, entry}
use Rattle.rdm_added.specs.Parameters.{Parameters}
use Rattle.rdm_added.specs.Scenes.{read_only}
use Rattle.rdm_added.specs.Spot.{Spot, sub_device}
use Rattle.rdm_device.specs.Columns.Ranges.{below, a_threshold, a_language, a_personality, lamp_modes_told}
use Rattle.rdm_saved.specs.SameProfile.{restored_device, kept_said}
use Rattle.rdm_saved.specs.SavedText.{is_of_the_moment, own_text}

-- ---- what an image says

-- the number of 16 bits at a place
abbrev pub word_at : List ℕ → ℕ → ℕ
word_at image place = front_word (drop place image)

-- how many sub-devices it has values of, how many sensors, how many parameters its maker added, how many PIDs were left out, and how many
-- values were kept of the parameters that its maker added
abbrev pub said_subs : List ℕ → ℕ
said_subs image = word_at image 16

abbrev pub said_sensors : List ℕ → ℕ
said_sensors image = slice_index image 18

abbrev pub said_own : List ℕ → ℕ
said_own image = slice_index image 19

abbrev pub said_without : List ℕ → ℕ
said_without image = slice_index image 20

abbrev pub said_kept : List ℕ → ℕ
said_kept image = word_at image 21

-- where the values of the root begin, those of its sensors, those of the parameters that the maker adds, and those of the sub-devices
abbrev pub root_place : List ℕ → ℕ
root_place image = 23 + 4 * said_own image + 2 * said_without image

abbrev pub sensors_place : List ℕ → ℕ
sensors_place image = root_place image + 61

abbrev pub kept_place : List ℕ → ℕ
kept_place image = sensors_place image + 2 * said_sensors image

abbrev pub subs_place : List ℕ → ℕ
subs_place image = kept_place image + 37 * said_kept image

-- how many bytes it says that it has
abbrev pub said_len : List ℕ → ℕ
said_len image = subs_place image + 46 * said_subs image + 4

-- whether one of the first N pieces of this size is this one
abbrev pub has_piece : ℕ → ℕ → List ℕ → List ℕ → Bool
has_piece size zero bytes piece = false
has_piece size (suc n) bytes piece = bytes_eq (take size bytes) piece || has_piece size n (drop size bytes) piece

-- whether its profile left this PID out
abbrev pub is_omitted : List ℕ → ℕ → Bool
is_omitted image pid = has_piece 2 (said_without image) (drop (23 + 4 * said_own image) image) (word_slots pid)

-- whether its maker added this parameter, with data of the same type and size
abbrev pub knows : List ℕ → ParameterDef → Bool
knows image d = has_piece 4 (said_own image) (drop 23 image) (own_text d)

-- whether these 37 bytes are of the value with this key
abbrev pub is_kept_of : ℕ → ℕ → List ℕ → Bool
is_kept_of pid index bytes = bytes_eq (take 4 bytes) (word_slots pid ++ word_slots index)

-- the value with this key among the first N that are kept
abbrev pub kept_in : ℕ → List ℕ → ℕ → ℕ → Option (List ℕ)
kept_in zero bytes pid index = None
kept_in (suc n) bytes pid index =
    if is_kept_of pid index (take 37 bytes) then Some (kept_said (take 37 bytes)) else kept_in n (drop 37 bytes) pid index

abbrev pub kept_value : List ℕ → ℕ → ℕ → Option (List ℕ)
kept_value image pid index = kept_in (said_kept image) (drop (kept_place image) image) pid index

-- ---- what a device can have

-- Whether the value of a PID of the table can be one of the device, whichever personality is current. Section 10.
abbrev pub can_have : Spot → ℕ → List ℕ → Bool
can_have spot pid bytes =
    if pid == 0x0033 then a_threshold byte spot (Byte (slice_index bytes 0))
    else if pid == 0x00B0 then a_language word spot (Word (front_word bytes))
    else if pid == 0x00E0 then a_personality byte spot (Byte (slice_index bytes 0))
    else if pid == 0x00F0 then nat_le 1 (front_word bytes) && nat_le (front_word bytes) 512
    else if pid == 0x0404 then below 4 byte spot (Byte (slice_index bytes 0)) || lamp_modes_told byte spot (Byte (slice_index bytes 0))
    else if pid == 0x0500 then below 3 byte spot (Byte (slice_index bytes 0))
    else if list_any (λ flag. flag == pid) (0x0600 ∷ 0x0601 ∷ 0x0602 ∷ []) then below 2 byte spot (Byte (slice_index bytes 0))
    else true

-- whether these bytes can be kept of a scene: as many as there are, and of one that can only be read if this one can
abbrev pub is_scene_of : ParameterDef → ℕ → List ℕ → Bool
is_scene_of d index bytes =
    (length bytes == 7) && (nat_le (slice_index bytes 6) 2
    && (if nat_le index (read_only d) then slice_index bytes 6 == 2 else not (slice_index bytes 6 == 2)))

-- whether these bytes can be kept beside the data of a parameter: of scenes, or as the count of an order
abbrev pub is_beside : Shape → ParameterDef → ℕ → List ℕ → Bool
is_beside shapes.Scenes d index bytes = is_scene_of d index bytes
is_beside _ d index bytes = length bytes == 1

-- Whether these bytes can be kept of a parameter that the maker adds: at index 0 as its data, which are in its range.
abbrev pub can_keep : ParameterDef → ℕ → List ℕ → Bool
can_keep d index bytes =
    if index == 0 then option_map_or (is_within d) (value_of (form_of d.shape) bytes) false else is_beside d.shape d index bytes

-- ---- what is carried over

-- A value after another is carried over: it becomes that one, if it lasts, the image's profile had the parameter, and the device can have
-- the value.
abbrev pub carried_value : Spot → List ℕ → Entry → Entry → List ℕ
carried_value spot image e said =
    if not (is_of_the_moment e.pid) && (not (is_omitted image e.pid) && can_have spot e.pid said.bytes) then said.bytes else e.bytes

-- each of these values after those are carried over that are said
abbrev pub carried_values : Spot → List ℕ → List Entry → List Entry → List Entry
carried_values spot image [] said = []
carried_values spot image (e ∷ es) [] = e ∷ es
carried_values spot image (e ∷ es) (s ∷ ss) = entry e.pid e.index (carried_value spot image e s) ∷ carried_values spot image es ss

-- what a device has then, from the bytes that were saved of one
abbrev pub carried_device : Spot → List ℕ → List Entry → List ℕ → List Entry
carried_device spot image es bytes = carried_values spot image es (restored_device es bytes)

-- the sensors after what was recorded of the first N is restored; the others stay
abbrev pub carried_sensors : ℕ → List Entry → List ℕ → List Entry
carried_sensors n es bytes = restored_device (take n es) bytes ++ drop n es

-- the first N sub-devices take what was saved of each; the others stay
abbrev pub carried_devices : ℕ → Profile → List ℕ → List (List Entry) → List ℕ → List (List Entry)
carried_devices zero p image ds bytes = ds
carried_devices (suc n) p image [] bytes = []
carried_devices (suc n) p image (d ∷ ds) bytes = carried_device (sub_device p d) image d bytes ∷ carried_devices n p image ds (drop 46 bytes)

-- how many sub-devices take what was saved: as many as the image has, if they are of the same model
abbrev pub carried_subs : Profile → List ℕ → ℕ
carried_subs p image = if bytes_eq (take 2 (drop 9 image)) (word_slots p.sub.model) then said_subs image else 0

-- these bytes of a parameter that the maker adds, or those that were kept, if it can keep them
abbrev pub kept_or : ParameterDef → ℕ → Option (List ℕ) → List ℕ → List ℕ
kept_or d index None bytes = bytes
kept_or d index (Some said) bytes = if can_keep d index said then said else bytes

-- a value of a parameter that the maker adds, after that of the same key is carried over: if both have the parameter
abbrev pub carried_kept : Profile → List ℕ → Entry → List ℕ
carried_kept p image e =
    option_map_or (λ d. if knows image d then kept_or d e.index (kept_value image e.pid e.index) e.bytes else e.bytes)
    (find (is_pid_of e.pid) p.particulars.own) e.bytes

-- the root of these devices
abbrev pub root_of : Parameters → Spot
root_of p = record { profile = p.profile; unit = p.profile.root; is_root = true; entries = p.root; added = p.added }

-- The values after those of an image of another version are carried over. The root has 20 values before those of its sensors.
abbrev pub carried : Parameters → List ℕ → Parameters
carried p image = record p {
  root =
      carried_device (root_of p) image (take 20 p.root) (drop (root_place image) image)
      ++ carried_sensors (said_sensors image) (drop 20 p.root) (drop (sensors_place image) image);
  added = map (λ e. entry e.pid e.index (carried_kept p.profile image e)) p.added;
  subs = carried_devices (carried_subs p.profile image) p.profile image p.subs (drop (subs_place image) image);
}
