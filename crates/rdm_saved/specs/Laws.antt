-- What holds of every image.
use Rattle.std.specs.Prelude.{◌≡◌, ◌≢◌, ℕ, ◌<◌, ◌≤◌, ◌==◌, List, [], ◌∷◌, ◌++◌, length, take, drop, slice_index, slice_set, ◌⊎◌, Some, None, if◌then◌else◌}
use Rattle.rdm_saved.specs.declared.errors.RestoreError.TheVariants.{Length, Altered}
use Rattle.rdm_profile.specs.declared.profile.Profile.{Profile}
use Rattle.rdm_added.specs.declared.state.CommonValues.{CommonValues}
use Rattle.rdm_added.specs.declared.state.RootValues.{RootValues}
use Rattle.rdm_added.specs.Map.{Entry, entry}
use Rattle.rdm_added.specs.Parameters.{Parameters}
use Rattle.rdm_added.specs.Views.State.{added_entries}
use Rattle.rdm_saved.specs.SavedText.{is_of_the_moment, kept, lasting, saved_text}
use Rattle.rdm_saved.specs.SameProfile.{size, profile_size}
use Rattle.rdm_saved.specs.Restoring.{restored, restore_refusal}

-- What is saved of each value of a device has the size of its PID: a label has at most 32 bytes, a number those of its type.
abbrev pub IsWhole : List Entry → Type 0
IsWhole [] = Unit {0}
IsWhole (e ∷ es) = (length (lasting e) ≡ size e.pid) × IsWhole es

abbrev pub AreWhole : List (List Entry) → Type 0
AreWhole [] = Unit {0}
AreWhole (d ∷ ds) = IsWhole d × AreWhole ds

-- No value of these has more than 32 bytes.
abbrev pub AreTexts : List Entry → Type 0
AreTexts [] = Unit {0}
AreTexts (e ∷ es) = (length e.bytes ≤ 32) × AreTexts es

-- Two devices have values of the same PIDs, in the same order.
abbrev pub HaveSamePids : List Entry → List Entry → Type 0
HaveSamePids [] [] = Unit {0}
HaveSamePids [] (s ∷ ss) = ⊥
HaveSamePids (e ∷ es) [] = ⊥
HaveSamePids (e ∷ es) (s ∷ ss) = (e.pid ≡ s.pid) × HaveSamePids es ss

abbrev pub AllHaveSamePids : List (List Entry) → List (List Entry) → Type 0
AllHaveSamePids [] [] = Unit {0}
AllHaveSamePids [] (s ∷ ss) = ⊥
AllHaveSamePids (d ∷ ds) [] = ⊥
AllHaveSamePids (d ∷ ds) (s ∷ ss) = HaveSamePids d s × AllHaveSamePids ds ss

-- Both are values of the same devices: of one profile, with as many sensors and sub-devices, and the same parameters that the maker
-- adds.
pub record AreOfOneMake (now saved : Parameters) : Type 0 where
  pub profile : now.profile ≡ saved.profile
  pub root : HaveSamePids now.root saved.root
  pub added : HaveSamePids now.added saved.added
  pub subs : AllHaveSamePids now.subs saved.subs

-- The value that is saved takes the place of that of now, but for the moment's, and those that a sensor has measured.
abbrev pub taken_value : Entry → Entry → List ℕ
taken_value now saved =
    if is_of_the_moment now.pid then now.bytes
    else if now.pid == 0x0201 then take 6 now.bytes ++ drop 6 saved.bytes else saved.bytes

abbrev pub taken_device : List Entry → List Entry → List Entry
taken_device [] saved = []
taken_device (e ∷ es) [] = e ∷ es
taken_device (e ∷ es) (s ∷ ss) = entry e.pid e.index (taken_value e s) ∷ taken_device es ss

abbrev pub taken_devices : List (List Entry) → List (List Entry) → List (List Entry)
taken_devices [] saved = []
taken_devices (d ∷ ds) [] = d ∷ ds
taken_devices (d ∷ ds) (s ∷ ss) = taken_device d s ∷ taken_devices ds ss

-- each value of a parameter that the maker adds is the saved one
abbrev pub taken_added : List Entry → List Entry → List Entry
taken_added [] saved = []
taken_added (e ∷ es) [] = e ∷ es
taken_added (e ∷ es) (s ∷ ss) = entry e.pid e.index s.bytes ∷ taken_added es ss

-- the values of now, with those that last as they were saved
abbrev pub taken : Parameters → Parameters → Parameters
taken now saved = record now {
  root = taken_device now.root saved.root;
  added = taken_added now.added saved.added;
  subs = taken_devices now.subs saved.subs;
}

-- So are values of one profile with as many sensors and sub-devices, and the same parameters that the maker adds.
abbrev pub SameDevicesAreOfOneMake : Type 0
SameDevicesAreOfOneMake =
    (p : Profile) (root root' : CommonValues) (own own' : RootValues) (subs subs' : List CommonValues)
    → length own.sensors.items ≡ length own'.sensors.items → length subs ≡ length subs'
    → HaveSamePids (added_entries own.added.items) (added_entries own'.added.items)
    → AreOfOneMake (kept p root own subs) (kept p root' own' subs')

-- What is saved is restored: on any values of the same devices.
abbrev pub SavedIsRestored : Type 0
SavedIsRestored =
    (maker : ℕ) (now saved : Parameters) → IsWhole saved.root → AreTexts saved.added → AreWhole saved.subs → AreOfOneMake now saved
    → (restore_refusal maker now (saved_text maker saved) ≡ None) × (restored now (saved_text maker saved) ≡ taken now saved)

-- An image that is cut anywhere is refused.
abbrev pub CutIsRefused : Type 0
CutIsRefused =
    (maker : ℕ) (p : Parameters) (image : List ℕ) (n : ℕ) → restore_refusal maker p image ≡ None → n < length image
    → restore_refusal maker p (take n image) ≡ Some Length

-- An image in which one byte is another is refused: as altered, or by its length where the byte is one of those that say the profile, and so
-- how long the image is.
abbrev pub AlteredIsRefused : Type 0
AlteredIsRefused =
    (maker : ℕ) (p : Parameters) (image : List ℕ) (i byte : ℕ) → restore_refusal maker p image ≡ None → i < length image
    → slice_index image i < 256 → byte < 256 → byte ≢ slice_index image i
    → (restore_refusal maker p (slice_set image i byte) ≡ Some Altered)
    ⊎ ((i < profile_size p.profile) × (restore_refusal maker p (slice_set image i byte) ≡ Some Length))
