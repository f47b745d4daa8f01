-- The values of one device after an update.
use Rattle.std.proofs.Common.{◌≡◌, ℕ, suc, ◌-◌, Bool, true, false, ◌==◌, ◌&&◌, not, List, [], ◌∷◌, ◌++◌, length, length-append, append_assoc, take, drop, map, replicate, refl, sym, ap, ◌∙◌, arith}
use Rattle.std.specs.Prelude.{slice_index, flat_map, if◌then◌else◌}
use Rattle.std.proofs.Math.Seq.{take-append_seam}
use Rattle.std.proofs.lemmas.List.{take_at}
use Rattle.rdm_profile.specs.declared.profile.Profile.{Profile}
use Rattle.rdm_added.specs.declared.state.CommonValues.{CommonValues}
use Rattle.rdm_added.specs.declared.state.Measured.{Measured}
use Rattle.rdm_added.specs.Map.{Entry, entry}
use Rattle.rdm_added.specs.Spot.{Spot, sub_device}
use Rattle.rdm_added.specs.Views.State.{common_entries, measured_slots, sensor_entries}
use Rattle.rdm_saved.specs.SavedText.{is_of_the_moment, label_text, lasting, device_text}
use Rattle.rdm_saved.specs.SameProfile.{size, device_size, restored_value}
use Rattle.rdm_saved.specs.Carrying.{can_have, is_omitted, carried_value, carried_device, carried_devices, carried_sensors}
use Rattle.rdm_saved.specs.Laws.{IsWhole, AreWhole, HaveSamePids, taken_device}
use Rattle.rdm_saved.proofs.Sizes.{common_size}
use Rattle.rdm_updates.specs.Updated.{leaves_out, updated_value, updated_device, updated_devices}
use Rattle.rdm_updates.proofs.Pieces.{drop_at}

-- none of these is a value of a sensor
abbrev pub AreNumbers : List Entry → Type 0
AreNumbers [] = Unit {0}
AreNumbers (e ∷ es) = ((e.pid == 0x0201) ≡ false) × AreNumbers es

-- an image says the PIDs that a profile leaves out
abbrev pub SaysOmitted : List ℕ → Profile → Type 0
SaysOmitted image before = (pid : ℕ) → is_omitted image pid ≡ leaves_out before pid

-- what lasts, by the three tests of the PID
abbrev lasted : Bool → Bool → Bool → List ℕ → List ℕ
lasted moment sensor label bytes = if moment then [] else if sensor then drop 6 bytes else if label then label_text bytes else bytes

-- what is restored of it, by the same tests
abbrev back : Bool → Bool → Bool → List ℕ → List ℕ → List ℕ
back moment sensor label now bytes =
    if moment then now else if sensor then take 6 now ++ bytes else if label then take (slice_index bytes 0) (drop 1 bytes) else bytes

-- the one that is said, if it lasts and can be taken
abbrev chosen : Bool → (List ℕ → Bool) → List ℕ → List ℕ → List ℕ
chosen moment takes said now = if not moment && takes said then said else now

by_tests : (moment label : Bool) (takes : List ℕ → Bool) (now saved : List ℕ) → chosen moment takes (back moment false label now (lasted moment false label saved)) now ≡ chosen moment takes saved now
by_tests true label takes now saved = refl
by_tests false true takes now saved = ap (λ (said : List ℕ). chosen false takes said now) (take-append_seam saved (replicate (32 - length saved) 0))
by_tests false false takes now saved = refl

value_is : (before : Profile) (spot : Spot) (image : List ℕ) (e s : Entry) → e.pid ≡ s.pid → (e.pid == 0x0201) ≡ false → SaysOmitted image before → carried_value spot image e (entry e.pid e.index (restored_value e (lasting s))) ≡ updated_value before spot e s
value_is before spot image e s same number omitted =
    let moment : Bool = is_of_the_moment e.pid in
    let label : Bool = e.pid == 0x0082 in
    let takes : List ℕ → Bool = λ (bytes : List ℕ). not (is_omitted image e.pid) && can_have spot e.pid bytes in
    let kept : lasting s ≡ lasted moment (e.pid == 0x0201) label s.bytes = ap (λ (pid : ℕ). lasted (is_of_the_moment pid) (pid == 0x0201) (pid == 0x0082) s.bytes) (sym same) in
    let said : restored_value e (lasting s) ≡ back moment false label e.bytes (lasted moment false label s.bytes) = ap (restored_value e) kept ∙ ap (λ (sensor : Bool). back moment sensor label e.bytes (lasted moment sensor label s.bytes)) number in
    ap (λ (bytes : List ℕ). chosen moment takes bytes e.bytes) said ∙ by_tests moment label takes e.bytes s.bytes
    ∙ ap (λ (b : Bool). if not moment && (not b && can_have spot e.pid s.bytes) then s.bytes else e.bytes) (omitted e.pid)

entry_same : (e : Entry) {a b : List ℕ} {xs ys : List Entry} → a ≡ b → xs ≡ ys → entry e.pid e.index a ∷ xs ≡ entry e.pid e.index b ∷ ys
entry_same e p q = rw (p, q) refl

-- each value of a device
pub device_is : (before : Profile) (spot : Spot) (image : List ℕ) (es ss : List Entry) (rest : List ℕ) → HaveSamePids es ss → AreNumbers es → IsWhole ss → SaysOmitted image before → carried_device spot image es (device_text ss ++ rest) ≡ updated_device before spot es ss
device_is before spot image [] [] rest same numbers whole omitted = refl
device_is before spot image [] (s ∷ ss) rest same numbers whole omitted = absurd same
device_is before spot image (e ∷ es) [] rest same numbers whole omitted = absurd same
device_is before spot image (e ∷ es) (s ∷ ss) rest same numbers whole omitted =
    let more : List ℕ = device_text ss ++ rest in
    let first : length (lasting s) ≡ size e.pid = whole.0 ∙ ap size (sym same.0) in
    let bytes : device_text (s ∷ ss) ++ rest ≡ lasting s ++ more = append_assoc (lasting s) (device_text ss) rest in
    ap (carried_device spot image (e ∷ es)) bytes
    ∙ entry_same e (ap (λ (xs : List ℕ). carried_value spot image e (entry e.pid e.index (restored_value e xs))) (take_at (lasting s) more (size e.pid) first) ∙ value_is before spot image e s same.0 numbers.0 omitted) (ap (carried_device spot image es) (drop_at (lasting s) more (size e.pid) first) ∙ device_is before spot image es ss rest same.1 numbers.1 whole.1 omitted)

-- ---- sensors

pub sensors_are : (n m : ℕ) (now saved : List Measured) (rest : List ℕ) → carried_sensors (length saved) (sensor_entries n now) (device_text (sensor_entries m saved) ++ rest) ≡ taken_device (sensor_entries n now) (sensor_entries m saved)
sensors_are n m [] [] rest = refl
sensors_are n m [] (y ∷ ys) rest = refl
sensors_are n m (x ∷ xs) [] rest = refl
sensors_are n m (x ∷ xs) (y ∷ ys) rest = ap (λ (es : List Entry). entry 0x0201 n (take 6 (measured_slots x) ++ drop 6 (measured_slots y)) ∷ es) (sensors_are (suc n) (suc m) xs ys rest)

-- ---- sub-devices

common_same : (d s : CommonValues) → HaveSamePids (common_entries d) (common_entries s)
unfolding common_entries
common_same d s = (refl, (refl, (refl, (refl, (refl, (refl, (refl, (refl, (refl, (refl, tt))))))))))

common_numbers : (d : CommonValues) → AreNumbers (common_entries d)
unfolding common_entries
common_numbers d = (refl, (refl, (refl, (refl, (refl, (refl, (refl, (refl, (refl, (refl, tt))))))))))

pub text_size : (ss : List Entry) → IsWhole ss → length (device_text ss) ≡ device_size ss
text_size [] whole = refl
text_size (s ∷ ss) whole = omega (arith, whole.0, text_size ss whole.1, length-append (lasting s) (device_text ss))

pub common_text_size : (s : CommonValues) → IsWhole (common_entries s) → length (device_text (common_entries s)) ≡ 46
common_text_size s whole = text_size (common_entries s) whole ∙ common_size s

both_same : {A : Type 0} {x y : A} {xs ys : List A} → x ≡ y → xs ≡ ys → x ∷ xs ≡ y ∷ ys
both_same p q = rw (p, q) refl

pub devices_are : (before p : Profile) (image : List ℕ) (ds ss : List CommonValues) (rest : List ℕ) → AreWhole (map common_entries ss) → SaysOmitted image before → carried_devices (length ss) p image (map common_entries ds) (flat_map device_text (map common_entries ss) ++ rest) ≡ updated_devices before p (map common_entries ds) (map common_entries ss)
devices_are before p image [] [] rest whole omitted = refl
devices_are before p image [] (s ∷ ss) rest whole omitted = refl
devices_are before p image (d ∷ ds) [] rest whole omitted = refl
devices_are before p image (d ∷ ds) (s ∷ ss) rest whole omitted =
    let text : List ℕ = device_text (common_entries s) in
    let more : List ℕ = flat_map device_text (map common_entries ss) ++ rest in
    let spot : Spot = sub_device p (common_entries d) in
    let bytes : flat_map device_text (map common_entries (s ∷ ss)) ++ rest ≡ text ++ more = append_assoc text (flat_map device_text (map common_entries ss)) rest in
    ap (carried_devices (length (s ∷ ss)) p image (map common_entries (d ∷ ds))) bytes
    ∙ both_same (device_is before spot image (common_entries d) (common_entries s) more (common_same d s) (common_numbers d) whole.0 omitted) (ap (carried_devices (length ss) p image (map common_entries ds)) (drop_at text more 46 (common_text_size s whole.0)) ∙ devices_are before p image ds ss rest whole.1 omitted)
