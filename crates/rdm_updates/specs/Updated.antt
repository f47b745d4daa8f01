-- What the values of a fixture are after an update: those that were saved by the version before, as far as both know them and the new one can
-- have them. No image is named here.
use Rattle.std.specs.Prelude.{ℕ, Bool, ◌&&◌, not, List, [], ◌∷◌, ◌++◌, map, take, drop, bytes_eq, Option, find, if◌then◌else◌}
use Rattle.std.specs.List.{list_any}
use Rattle.std.specs.Option.{option_map, option_map_or}
use Rattle.rdm_profile.specs.declared.profile.Profile.{Profile}
use Rattle.rdm_profile.specs.declared.profile.own.ParameterDef.{ParameterDef}
use Rattle.rdm_profile.specs.Values.{word_slots}
use Rattle.rdm_added.specs.Added.{is_pid_of}
use Rattle.rdm_added.specs.Map.{Entry, entry}
use Rattle.rdm_added.specs.Parameters.{Parameters}
use Rattle.rdm_added.specs.Spot.{Spot, sub_device}
use Rattle.rdm_saved.specs.Carrying.{can_have, kept_or, root_of}
use Rattle.rdm_saved.specs.SavedText.{is_of_the_moment, own_text}
use Rattle.rdm_saved.specs.Laws.{taken_device}

-- Whether two numbers are the same in 16 bits: those of a fixture have no more.
abbrev pub is_same_word : ℕ → ℕ → Bool
is_same_word a b = bytes_eq (word_slots a) (word_slots b)

-- whether a profile leaves this PID out
abbrev pub leaves_out : Profile → ℕ → Bool
leaves_out p pid = list_any (λ out. is_same_word out pid) p.particulars.without.items

-- whether a profile adds this parameter too: with the same PID, data type and size
abbrev pub adds : Profile → ParameterDef → Bool
adds p d = list_any (λ other. bytes_eq (own_text other) (own_text d)) p.particulars.own

-- whether a value has the key of another
abbrev pub has_key_of : Entry → Entry → Bool
has_key_of e other = is_same_word other.pid e.pid && is_same_word other.index e.index

-- ---- a device

-- A value becomes the saved one if it lasts, the profile before had its parameter, and the device can have the value. Else it stays.
abbrev pub updated_value : Profile → Spot → Entry → Entry → List ℕ
updated_value before spot now saved =
    if not (is_of_the_moment now.pid) && (not (leaves_out before now.pid) && can_have spot now.pid saved.bytes) then saved.bytes
    else now.bytes

-- each value of a device, which both versions have in the same order
abbrev pub updated_device : Profile → Spot → List Entry → List Entry → List Entry
updated_device before spot [] saved = []
updated_device before spot (e ∷ es) [] = e ∷ es
updated_device before spot (e ∷ es) (s ∷ ss) = entry e.pid e.index (updated_value before spot e s) ∷ updated_device before spot es ss

-- the sub-devices that both have, one by one; the others stay
abbrev pub updated_devices : Profile → Profile → List (List Entry) → List (List Entry) → List (List Entry)
updated_devices before p [] saved = []
updated_devices before p (d ∷ ds) [] = d ∷ ds
updated_devices before p (d ∷ ds) (s ∷ ss) = updated_device before (sub_device p d) d s ∷ updated_devices before p ds ss

-- the sub-devices, if they are of the same model
abbrev pub updated_subs : Parameters → Parameters → List (List Entry)
updated_subs now saved =
    if is_same_word saved.profile.sub.model now.profile.sub.model then updated_devices saved.profile now.profile now.subs saved.subs
    else now.subs

-- ---- what the maker adds

-- the saved value of the same key
abbrev pub saved_of : Entry → List Entry → Option (List ℕ)
saved_of e saved = option_map (λ s. s.bytes) (find (has_key_of e) saved)

-- a value of a parameter that the maker adds becomes the saved one of the same key, if both versions add the parameter and the new one can
-- keep it. Else it stays.
abbrev pub updated_kept : Parameters → Parameters → Entry → List ℕ
updated_kept now saved e =
    option_map_or (λ d. if adds saved.profile d then kept_or d e.index (saved_of e saved.added) e.bytes else e.bytes)
    (find (is_pid_of e.pid) now.profile.particulars.own) e.bytes

-- ---- all of them

-- The values after an update. The root has 20 before those of its sensors, of which what was recorded is restored where both have them.
abbrev pub updated : Parameters → Parameters → Parameters
updated now saved = record now {
  root =
      updated_device saved.profile (root_of now) (take 20 now.root) (take 20 saved.root)
      ++ taken_device (drop 20 now.root) (drop 20 saved.root);
  added = map (λ e. entry e.pid e.index (updated_kept now saved e)) now.added;
  subs = updated_subs now saved;
}
