-- What values are restored from an image, and which images are refused.
use Rattle.std.specs.Prelude.{ℕ, ◌+◌, ◌-◌, ◌==◌, Bool, List, ◌++◌, length, take, drop, bytes_eq, not, Option, Some, None, if◌then◌else◌}
use Rattle.rdm_saved.specs.declared.errors.RestoreError.{RestoreError}
use Rattle.rdm_saved.specs.declared.errors.RestoreError.TheVariants.{Length, Altered, OfAnother}
use Rattle.rdm_added.specs.Parameters.{Parameters}
use Rattle.rdm_profile.specs.Values.{word_slots}
use Rattle.rdm_saved.specs.Carrying.{said_len, carried}
use Rattle.rdm_saved.specs.SameProfile.{device_size, devices_size, added_size, profile_size, restored_whole}
use Rattle.rdm_saved.specs.SavedText.{profile_text, sum_text}

-- how many bytes the image of these values has
abbrev pub saved_len : Parameters → ℕ
saved_len p = profile_size p.profile + device_size p.root + added_size p.added + devices_size p.subs + 4

-- whether the image says this profile
abbrev pub says_profile : Parameters → List ℕ → Bool
says_profile p image =
    bytes_eq (drop 2 (take (profile_size p.profile) image)) (profile_text p.profile (length p.added))

-- The values after an image is restored: all that last, if it is of the same profile, and else those that both profiles know, and that
-- the device can have.
unfoldable pub restored : Parameters → List ℕ → Parameters
restored p image = if says_profile p image then restored_whole p image else carried p image

-- whether the last four bytes are the sum of the others
abbrev pub is_sound : List ℕ → Bool
is_sound image = bytes_eq (drop (length image - 4) image) (sum_text (take (length image - 4) image))

-- whether the image is of the same manufacturer and model, in whichever version
abbrev pub is_of_model : ℕ → Parameters → List ℕ → Bool
is_of_model maker p image = bytes_eq (take 4 image) (word_slots maker ++ word_slots p.profile.root.model)

-- how many bytes an image that begins so has: of the same profile as many as one of these values, else those that it says
abbrev pub wanted_len : Parameters → List ℕ → ℕ
wanted_len p image = if says_profile p image then saved_len p else said_len image

-- Why an image is refused, by the first reason: it has another length; its sum is wrong; it is of another manufacturer or model.
unfoldable pub restore_refusal : ℕ → Parameters → List ℕ → Option RestoreError
restore_refusal maker p image =
    if not (length image == wanted_len p image) then Some Length
    else if not (is_sound image) then Some Altered
    else if not (is_of_model maker p image) then Some OfAnother else None
