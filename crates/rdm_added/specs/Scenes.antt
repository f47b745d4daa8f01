-- What is kept of scenes, and how it is read and written. E1.37-1, PRESET_STATUS.
use Rattle.std.specs.Prelude.{ℕ, zero, suc, ◌%◌, Bool, false, ◌==◌, ◌&&◌, nat_le, List, [], ◌∷◌, ◌++◌, length, take, drop, replicate, slice_index, if◌then◌else◌}
use Rattle.std.specs.Int.{w64, cast_unsigned}
use Rattle.rdm_profile.specs.declared.profile.own.ParameterDef.{ParameterDef}
use Rattle.rdm_profile.specs.declared.profile.own.Shape.{Shape}
use Rattle.rdm_profile.specs.declared.profile.own.Shape.TheVariants as shapes
use Rattle.rdm_profile.specs.declared.value.Value.{Value}
use Rattle.rdm_profile.specs.Forms.{Form}
use Rattle.rdm_profile.specs.Values.{for_word, front_word, word_slots, word_or_0}
use Rattle.rdm_profile.specs.Choices.{greatest}
use Rattle.rdm_added.specs.Map.{Entry, entry, lookup}
use Rattle.rdm_added.specs.Spot.{Spot, Range}

-- whether it is the number of a scene
abbrev pub is_scene : ParameterDef → ℕ → Bool
is_scene d n = nat_le 1 n && nat_le n (greatest d)

-- how many of the first can only be read
abbrev pub read_only : ParameterDef → ℕ
read_only d = cast_unsigned w64 d.low % 256

-- ---- what it starts with

-- whether it is programmed: 00 if it isn't, 01 if it is, and 02 if it is and can only be read
abbrev pub programmed_at_start : ParameterDef → ℕ → ℕ
programmed_at_start d n = if nat_le n (read_only d) then 2 else 0

-- up fade time, down fade time and wait time, and whether it is programmed
abbrev pub scene_at_start : ParameterDef → ℕ → Entry
scene_at_start d n = entry d.pid n (0 ∷ 0 ∷ 0 ∷ 0 ∷ 0 ∷ 0 ∷ programmed_at_start d n ∷ [])

-- of the scenes from 1 to this one
abbrev pub scenes_to : ParameterDef → ℕ → List Entry
scenes_to d zero = []
scenes_to d (suc n) = scenes_to d n ++ scene_at_start d (suc n) ∷ []

-- how many it has
abbrev pub scene_count : Shape → ParameterDef → ℕ
scene_count shapes.Scenes d = greatest d
scene_count _ d = 0

abbrev pub scenes_by : Shape → ParameterDef → List Entry
scenes_by shapes.Scenes d = scenes_to d (greatest d)
scenes_by _ d = []

-- ---- GET: asked with the number of a scene

abbrev pub a_scene : ParameterDef → Form → Range
a_scene d form spot v = for_word (is_scene d) v

-- its number, and what is kept of it
abbrev pub scene_shown : ParameterDef → Spot → Value → List ℕ
scene_shown d spot v = word_slots (word_or_0 v) ++ lookup spot.added d.pid (word_or_0 v)

-- ---- SET: the scene, its three times, and whether it is cleared

-- the number of the scene
abbrev pub scene_of : List ℕ → ℕ
scene_of slots = front_word slots

-- a scene that there is, and that is or isn't cleared
abbrev pub is_set_of : ParameterDef → List ℕ → Bool
is_set_of d slots = is_scene d (scene_of slots) && nat_le (slice_index slots 8) 1

-- what is kept of it: its times, and this of whether it is programmed; or nothing, if it is cleared
abbrev pub scene_as : ℕ → List ℕ → List ℕ
scene_as programmed slots = if slice_index slots 8 == 1 then replicate 7 0 else take 6 (drop 2 slots) ++ programmed ∷ []

-- after a SET it is programmed
abbrev pub scene_kept : List ℕ → List ℕ
scene_kept slots = scene_as 1 slots

-- whether data are those of a SET of a scene that can only be read
abbrev pub is_of_read_only : ParameterDef → List ℕ → Bool
is_of_read_only d slots = (length slots == 9) && nat_le 1 (scene_of slots) && nat_le (scene_of slots) (read_only d)

abbrev pub protects_by : Shape → ParameterDef → List ℕ → Bool
protects_by shapes.Scenes d slots = is_of_read_only d slots
protects_by _ d slots = false

-- ---- placed by the firmware, with the slots of a SET: also a scene that can only be read, which stays so

abbrev pub programmed_when_placed : ParameterDef → ℕ → ℕ
programmed_when_placed d n = if nat_le n (read_only d) then 2 else 1

abbrev pub scene_placed : ParameterDef → List ℕ → List ℕ
scene_placed d slots = scene_as (programmed_when_placed d (scene_of slots)) slots
