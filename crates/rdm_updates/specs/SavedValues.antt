-- Which values an image has, and where they stand in it.
use Rattle.std.specs.Prelude.{ℕ, zero, suc, ◌+◌, ◌==◌, List, [], ◌∷◌, ◌++◌, length, map, take, drop, min, slice_index, if◌then◌else◌}
use Rattle.rdm_saved.specs.Carrying.{word_at, said_subs, said_sensors, said_kept, said_len, root_place, sensors_place, kept_place, subs_place}
use Rattle.rdm_updates.specs.declared.places.ValuePlace.{ValuePlace}
use Rattle.rdm_updates.specs.declared.values.SavedValue.{SavedValue}

-- ---- where they stand

-- a value of a device, of which 0 is the root: its PID and index, where its bytes begin, and how many they are
abbrev pub value_place : ℕ → ℕ → ℕ → ℕ → ℕ → ValuePlace
value_place device pid index start len = record { device = device; pid = pid; index = index; start = start; len = len }

-- a text, behind the byte that tells its length; an image has room for 32
abbrev pub text_place : List ℕ → ℕ → ℕ → ℕ → ℕ → ValuePlace
text_place image device pid index place = value_place device pid index (place + 1) (min (slice_index image place) 32)

-- the values of every device, of which 46 bytes are saved
abbrev pub common_places : List ℕ → ℕ → ℕ → List ValuePlace
common_places image device place =
    value_place device 0x0033 0 place 1
    ∷ text_place image device 0x0082 0 (place + 1)
    ∷ value_place device 0x00E0 0 (place + 34) 1
    ∷ value_place device 0x00F0 0 (place + 35) 2
    ∷ value_place device 0x0401 0 (place + 37) 4
    ∷ value_place device 0x0402 0 (place + 41) 4
    ∷ value_place device 0x0404 0 (place + 45) 1
    ∷ []

-- those of the root alone: 15 bytes
abbrev pub own_places : ℕ → List ValuePlace
own_places place =
    value_place 0 0x00B0 0 place 2
    ∷ value_place 0 0x0400 0 (place + 2) 4
    ∷ value_place 0 0x0405 0 (place + 6) 4
    ∷ value_place 0 0x0500 0 (place + 10) 1
    ∷ value_place 0 0x0501 0 (place + 11) 1
    ∷ value_place 0 0x0600 0 (place + 12) 1
    ∷ value_place 0 0x0601 0 (place + 13) 1
    ∷ value_place 0 0x0602 0 (place + 14) 1
    ∷ []

-- what was recorded of so many sensors, from this number on
abbrev pub sensor_places : ℕ → ℕ → ℕ → List ValuePlace
sensor_places zero number place = []
sensor_places (suc n) number place = value_place 0 0x0201 number place 2 ∷ sensor_places n (suc number) (place + 2)

-- so many values of parameters that the maker added: each has 37 bytes, and says its key
abbrev pub kept_places : List ℕ → ℕ → ℕ → List ValuePlace
kept_places image zero place = []
kept_places image (suc n) place =
    text_place image 0 (word_at image place) (word_at image (place + 2)) (place + 4) ∷ kept_places image n (place + 37)

-- the values of so many sub-devices, from this number on
abbrev pub sub_places : List ℕ → ℕ → ℕ → ℕ → List ValuePlace
sub_places image zero device place = []
sub_places image (suc n) device place = common_places image device place ++ sub_places image n (suc device) (place + 46)

-- those of the sensors, of what the maker added, and of the sub-devices
abbrev pub behind_places : List ℕ → List ValuePlace
behind_places image =
    sensor_places (said_sensors image) 0 (sensors_place image)
    ++ (kept_places image (said_kept image) (kept_place image) ++ sub_places image (said_subs image) 1 (subs_place image))

-- all of an image: before these those of the root
abbrev pub places : List ℕ → List ValuePlace
places image = common_places image 0 (root_place image) ++ (own_places (root_place image + 46) ++ behind_places image)

-- ---- the values

-- a value that was saved: of which device, its PID and index, and its bytes
pub record ValueSaved : Type 0 where
  pub device : ℕ
  pub pid : ℕ
  pub index : ℕ
  pub bytes : List ℕ

-- what a value of the code says
abbrev pub told : SavedValue → ValueSaved
told v = record { device = v.device; pid = v.pid; index = v.index; bytes = v.bytes.now }

-- the value at a place
abbrev pub value_at : List ℕ → ValuePlace → ValueSaved
value_at image p = record { device = p.device; pid = p.pid; index = p.index; bytes = take p.len (drop p.start image) }

-- The values that an image has. Bytes that are fewer or more than they say are none, and have no values.
abbrev pub saved_values : List ℕ → List ValueSaved
saved_values image = if length image == said_len image then map (value_at image) (places image) else []
