-- What values are restored from an image of the same profile.
use Rattle.std.specs.Prelude.{ℕ, ◌+◌, ◌*◌, ◌==◌, List, [], ◌∷◌, ◌++◌, length, take, drop, slice_index, if◌then◌else◌}
use Rattle.std.specs.List.{list_any}
use Rattle.rdm_profile.specs.declared.profile.Profile.{Profile}
use Rattle.rdm_added.specs.Map.{Entry, entry}
use Rattle.rdm_added.specs.Parameters.{Parameters}
use Rattle.rdm_saved.specs.SavedText.{is_of_the_moment}

-- how many bytes are saved of the value of a PID
abbrev pub size : ℕ → ℕ
size pid =
    if is_of_the_moment pid then 0
    else if pid == 0x0082 then 33
    else if list_any (λ word. pid == word) (0x00B0 ∷ 0x00F0 ∷ 0x0201 ∷ []) then 2
    else if list_any (λ long. pid == long) (0x0400 ∷ 0x0401 ∷ 0x0402 ∷ 0x0405 ∷ []) then 4 else 1

abbrev pub device_size : List Entry → ℕ
device_size [] = 0
device_size (e ∷ es) = size e.pid + device_size es

abbrev pub devices_size : List (List Entry) → ℕ
devices_size [] = 0
devices_size (d ∷ ds) = device_size d + devices_size ds

-- The value after these bytes, which were saved of it, are restored: a value of the moment stays, and so do the present,
-- the lowest and the highest value of a sensor.
abbrev pub restored_value : Entry → List ℕ → List ℕ
restored_value e bytes =
    if is_of_the_moment e.pid then e.bytes
    else if e.pid == 0x0201 then take 6 e.bytes ++ bytes
    else if e.pid == 0x0082 then take (slice_index bytes 0) (drop 1 bytes) else bytes

-- the values of a device, each restored from its bytes, which stand in the same order
abbrev pub restored_device : List Entry → List ℕ → List Entry
restored_device [] bytes = []
restored_device (e ∷ es) bytes =
    entry e.pid e.index (restored_value e (take (size e.pid) bytes)) ∷ restored_device es (drop (size e.pid) bytes)

abbrev pub restored_devices : List (List Entry) → List ℕ → List (List Entry)
restored_devices [] bytes = []
restored_devices (d ∷ ds) bytes = restored_device d bytes ∷ restored_devices ds (drop (device_size d) bytes)

-- what 37 bytes say of a value of a parameter that the maker adds: behind its key, the first tells how many of the others it has
abbrev pub kept_said : List ℕ → List ℕ
kept_said bytes = take (slice_index bytes 4) (drop 5 bytes)

-- The value of a parameter that the maker adds after these bytes are restored.
abbrev pub restored_kept : Entry → List ℕ → Entry
restored_kept e bytes = entry e.pid e.index (kept_said bytes)

abbrev pub restored_added : List Entry → List ℕ → List Entry
restored_added [] bytes = []
restored_added (e ∷ es) bytes = restored_kept e (take 37 bytes) ∷ restored_added es (drop 37 bytes)

-- how many bytes are saved of these
abbrev pub added_size : List Entry → ℕ
added_size es = 37 * length es

-- how many bytes say the manufacturer and the profile
abbrev pub profile_size : Profile → ℕ
profile_size p = 23 + 4 * length p.particulars.own + 2 * length p.particulars.without.items

-- the values after an image of the same profile is restored
abbrev pub restored_whole : Parameters → List ℕ → Parameters
restored_whole p image = record p {
  root = restored_device p.root (drop (profile_size p.profile) image);
  added = restored_added p.added (drop (profile_size p.profile + device_size p.root) image);
  subs = restored_devices p.subs (drop (profile_size p.profile + device_size p.root + added_size p.added) image);
}
