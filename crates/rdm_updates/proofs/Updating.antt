-- What is restored after an update.
use Rattle.std.proofs.Common.{◌≡◌, ℕ, zero, suc, ◌-◌, ◌*◌, Bool, true, false, List, [], ◌∷◌, ◌++◌, length, length-append, append_assoc, take, drop, map, Option, Some, None, refl, sym, ap, ◌∙◌, arith}
use Rattle.std.specs.Prelude.{bytes_eq, flat_map, find, if◌then◌else◌}
use Rattle.std.specs.Option.{option_map_or}
use Rattle.std.proofs.lemmas.Bool.{eq-eqb}
use Rattle.std.proofs.lemmas.Grind.{flat_map-append}
use Rattle.std.proofs.lemmas.List.{take_at, length-map, take-append-drop}
use Rattle.std.proofs.lemmas.Slice.Eq.{bytes_eq-Decides}
use Rattle.rdm_profile.specs.declared.profile.Profile.{Profile}
use Rattle.rdm_profile.specs.declared.profile.own.ParameterDef.{ParameterDef}
use Rattle.rdm_profile.specs.Values.{word_slots}
use Rattle.rdm_added.specs.Added.{is_pid_of}
use Rattle.rdm_added.specs.Map.{Entry, entry}
use Rattle.rdm_added.specs.Parameters.{Parameters}
use Rattle.rdm_added.specs.declared.state.CommonValues.{CommonValues}
use Rattle.rdm_added.specs.declared.state.RootValues.{RootValues}
use Rattle.rdm_added.specs.Views.State.{common_entries, own_entries, sensor_entries, kept_entry, added_entries}
use Rattle.rdm_saved.specs.SavedText.{kept, lasting, device_text, added_text, values_text, sum_text, saved_text}
use Rattle.rdm_saved.specs.SameProfile.{device_size}
use Rattle.rdm_saved.specs.Carrying.{said_subs, said_sensors, said_kept, said_len, root_place, sensors_place, kept_place, subs_place, knows, kept_value, kept_in, kept_or, carried_device, carried_sensors, carried_devices, carried_subs, carried_kept, carried, root_of}
use Rattle.rdm_saved.specs.Laws.{IsWhole, AreTexts, AreWhole, HaveSamePids, taken_device}
use Rattle.rdm_saved.specs.Restoring.{says_profile, is_sound, is_of_model, restored, restore_refusal}
use Rattle.rdm_saved.proofs.Lists.{drop_drop}
use Rattle.rdm_saved.proofs.Profiles.{head_size}
use Rattle.rdm_updates.specs.Laws.{AreCounted, AreUpdated}
use Rattle.rdm_updates.specs.Updated.{is_same_word, adds, saved_of, updated_device, updated_devices, updated_subs, updated_kept, updated}
use Rattle.rdm_updates.proofs.Pieces.{drop_at, if_same, kept_is}
use Rattle.rdm_updates.proofs.Devices.{AreNumbers, text_size, device_is, sensors_are, devices_are}
use Rattle.rdm_updates.proofs.Image.{head, behind_root, behind_head, image_is, sensors_size, added_size, subs_size, sensors_said, subs_said, kept_said, sub_model_said, root_at, knows_is, says_omitted, behind_is}

-- ---- the 20 values of the root before those of its sensors

abbrev twenty : CommonValues → RootValues → List Entry
twenty d o = take 20 (common_entries d ++ own_entries o)

twenty_same : (d d' : CommonValues) (o o' : RootValues) → HaveSamePids (twenty d o) (twenty d' o')
unfolding common_entries own_entries
twenty_same d d' o o' = (refl, (refl, (refl, (refl, (refl, (refl, (refl, (refl, (refl, (refl, (refl, (refl, (refl, (refl, (refl, (refl, (refl, (refl, (refl, (refl, tt))))))))))))))))))))

twenty_numbers : (d : CommonValues) (o : RootValues) → AreNumbers (twenty d o)
unfolding common_entries own_entries
twenty_numbers d o = (refl, (refl, (refl, (refl, (refl, (refl, (refl, (refl, (refl, (refl, (refl, (refl, (refl, (refl, (refl, (refl, (refl, (refl, (refl, (refl, tt))))))))))))))))))))

twenty_size : (d : CommonValues) (o : RootValues) → device_size (twenty d o) ≡ 61
unfolding common_entries own_entries
twenty_size d o = refl

sensors_left : (d : CommonValues) (o : RootValues) → drop 20 (common_entries d ++ own_entries o) ≡ sensor_entries 0 o.sensors.items
unfolding common_entries own_entries
sensors_left d o = refl

front_whole : (n : ℕ) (es : List Entry) → IsWhole es → IsWhole (take n es)
front_whole zero es whole = tt
front_whole (suc n) [] whole = tt
front_whole (suc n) (e ∷ es) whole = (whole.0, front_whole n es whole.1)

root_text : (d : CommonValues) (o : RootValues) → device_text (common_entries d ++ own_entries o) ≡ device_text (twenty d o) ++ device_text (sensor_entries 0 o.sensors.items)
root_text d o =
    let all : List Entry = common_entries d ++ own_entries o in
    ap device_text (sym (take-append-drop 20 all)) ∙ flat_map-append lasting (take 20 all) (drop 20 all) ∙ ap (λ (es : List Entry). device_text (take 20 all) ++ device_text es) (sensors_left d o)

-- ---- what a fixture has saved

pub record Saved : Type 0 where
  pub maker : ℕ
  pub before : Profile
  pub root : CommonValues
  pub own : RootValues
  pub subs : List CommonValues
  pub whole : IsWhole (common_entries root ++ own_entries own)
  pub short : AreTexts (added_entries own.added.items)
  pub wholes : AreWhole (map common_entries subs)
  pub counted : AreCounted before own subs

abbrev pub values : Saved → Parameters
values s = kept s.before s.root s.own s.subs

abbrev pub image : Saved → List ℕ
image s = saved_text s.maker (values s)

abbrev pub end : Saved → List ℕ
end s = behind_root s.maker (values s)

abbrev pub last : Saved → List ℕ
last s = flat_map device_text (map common_entries s.subs) ++ sum_text (values_text s.maker (values s))

first_size : (s : Saved) → length (device_text (twenty s.root s.own)) ≡ 61
first_size s = text_size (twenty s.root s.own) (front_whole 20 (common_entries s.root ++ own_entries s.own) s.whole) ∙ twenty_size s.root s.own

many_kept : (s : Saved) → length (added_entries s.own.added.items) ≡ length s.own.added.items
many_kept s = length-map s.own.added.items kept_entry

pub sensors_count : (s : Saved) → said_sensors (image s) ≡ length s.own.sensors.items
sensors_count s = sensors_said s.maker (values s) ∙ sym s.counted.sensors

pub kept_count : (s : Saved) → said_kept (image s) ≡ length (added_entries s.own.added.items)
kept_count s = kept_said s.maker (values s) (omega (arith, s.counted.few_kept, many_kept s))

pub subs_count : (s : Saved) → said_subs (image s) ≡ length s.subs
subs_count s = subs_said s.maker (values s) s.counted.few_devices ∙ sym s.counted.devices

-- from where the values of the root stand
from_root : (s : Saved) → drop (root_place (image s)) (image s) ≡ device_text (twenty s.root s.own) ++ (device_text (sensor_entries 0 s.own.sensors.items) ++ end s)
from_root s =
    behind_is s.maker (values s) ∙ ap (λ (xs : List ℕ). xs ++ end s) (root_text s.root s.own)
    ∙ append_assoc (device_text (twenty s.root s.own)) (device_text (sensor_entries 0 s.own.sensors.items)) (end s)

pub from_sensors : (s : Saved) → drop (sensors_place (image s)) (image s) ≡ device_text (sensor_entries 0 s.own.sensors.items) ++ end s
from_sensors s =
    sym (drop_drop (root_place (image s)) 61 (image s)) ∙ ap (drop 61) (from_root s)
    ∙ drop_at (device_text (twenty s.root s.own)) (device_text (sensor_entries 0 s.own.sensors.items) ++ end s) 61 (first_size s)

pub from_kept : (s : Saved) → drop (kept_place (image s)) (image s) ≡ added_text (added_entries s.own.added.items) ++ last s
from_kept s =
    let n : ℕ = 2 * said_sensors (image s) in
    let size : length (device_text (sensor_entries 0 s.own.sensors.items)) ≡ n = sensors_size 0 s.own.sensors.items ∙ ap (λ (k : ℕ). 2 * k) (sym (sensors_count s)) in
    sym (drop_drop (sensors_place (image s)) n (image s)) ∙ ap (drop n) (from_sensors s) ∙ drop_at (device_text (sensor_entries 0 s.own.sensors.items)) (end s) n size

pub from_subs : (s : Saved) → drop (subs_place (image s)) (image s) ≡ last s
from_subs s =
    let n : ℕ = 37 * said_kept (image s) in
    let size : length (added_text (added_entries s.own.added.items)) ≡ n = added_size (added_entries s.own.added.items) s.short ∙ ap (λ (k : ℕ). 37 * k) (sym (kept_count s)) in
    sym (drop_drop (kept_place (image s)) n (image s)) ∙ ap (drop n) (from_kept s) ∙ drop_at (added_text (added_entries s.own.added.items)) (last s) n size

-- ---- the parts

two_same : {a a' b b' : List Entry} → a ≡ a' → b ≡ b' → a ++ b ≡ a' ++ b'
two_same e f = rw (e, f) refl

root_is : (s : Saved) (p : Profile) (d : CommonValues) (o : RootValues) (ds : List CommonValues) → carried_device (root_of (kept p d o ds)) (image s) (twenty d o) (drop (root_place (image s)) (image s)) ++ carried_sensors (said_sensors (image s)) (drop 20 (common_entries d ++ own_entries o)) (drop (sensors_place (image s)) (image s)) ≡ updated_device s.before (root_of (kept p d o ds)) (twenty d o) (twenty s.root s.own) ++ taken_device (drop 20 (common_entries d ++ own_entries o)) (drop 20 (common_entries s.root ++ own_entries s.own))
root_is s p d o ds =
    let spot = root_of (kept p d o ds) in
    let sensors : List ℕ = device_text (sensor_entries 0 s.own.sensors.items) ++ end s in
    let now : List Entry = drop 20 (common_entries d ++ own_entries o) in
    let first : carried_device spot (image s) (twenty d o) (drop (root_place (image s)) (image s)) ≡ updated_device s.before spot (twenty d o) (twenty s.root s.own) =
    ap (carried_device spot (image s) (twenty d o)) (from_root s) ∙ device_is s.before spot (image s) (twenty d o) (twenty s.root s.own) sensors (twenty_same d s.root o s.own) (twenty_numbers d o) (front_whole 20 (common_entries s.root ++ own_entries s.own) s.whole) (says_omitted s.maker (values s)) in
    let second : carried_sensors (said_sensors (image s)) now (drop (sensors_place (image s)) (image s)) ≡ taken_device now (drop 20 (common_entries s.root ++ own_entries s.own)) =
    ap (λ (n : ℕ). carried_sensors n now (drop (sensors_place (image s)) (image s))) (sensors_count s) ∙ ap (carried_sensors (length s.own.sensors.items) now) (from_sensors s) ∙ ap (λ (es : List Entry). carried_sensors (length s.own.sensors.items) es sensors) (sensors_left d o) ∙ sensors_are 0 0 o.sensors.items s.own.sensors.items (end s)
    ∙ ap (λ (es : List Entry). taken_device es (sensor_entries 0 s.own.sensors.items)) (sym (sensors_left d o)) ∙ ap (taken_device now) (sym (sensors_left s.root s.own)) in
    two_same first second

by_each : (f g : ParameterDef → List ℕ) → ((d : ParameterDef) → f d ≡ g d) → (o : Option ParameterDef) (bytes : List ℕ) → option_map_or f o bytes ≡ option_map_or g o bytes
by_each f g same None bytes = refl
by_each f g same (Some d) bytes = same d

value_kept : (s : Saved) (e : Entry) → kept_value (image s) e.pid e.index ≡ saved_of e (added_entries s.own.added.items)
value_kept s e =
    ap (λ (n : ℕ). kept_in n (drop (kept_place (image s)) (image s)) e.pid e.index) (kept_count s) ∙ ap (λ (xs : List ℕ). kept_in (length (added_entries s.own.added.items)) xs e.pid e.index) (from_kept s)
    ∙ kept_is (added_entries s.own.added.items) (last s) e s.short

kept_same : (s : Saved) (now : Parameters) (e : Entry) → carried_kept now.profile (image s) e ≡ updated_kept now (values s) e
kept_same s now e =
    by_each (λ (d : ParameterDef). if knows (image s) d then kept_or d e.index (kept_value (image s) e.pid e.index) e.bytes else e.bytes) (λ (d : ParameterDef). if adds s.before d then kept_or d e.index (saved_of e (added_entries s.own.added.items)) e.bytes else e.bytes)
    (λ (d : ParameterDef). if_same (knows_is s.maker (values s) d) (ap (λ (o : Option (List ℕ)). kept_or d e.index o e.bytes) (value_kept s e)) refl) (find (is_pid_of e.pid) now.profile.particulars.own) e.bytes

both_same : {x y : Entry} {xs ys : List Entry} → x ≡ y → xs ≡ ys → x ∷ xs ≡ y ∷ ys
both_same p q = rw (p, q) refl

added_is : (s : Saved) (now : Parameters) (es : List Entry) → map (λ (e : Entry). entry e.pid e.index (carried_kept now.profile (image s) e)) es ≡ map (λ (e : Entry). entry e.pid e.index (updated_kept now (values s) e)) es
added_is s now [] = refl
added_is s now (e ∷ es) = both_same (ap (entry e.pid e.index) (kept_same s now e)) (added_is s now es)

if_none : (b : Bool) (n : ℕ) (p : Profile) (image : List ℕ) (ds : List (List Entry)) (bytes : List ℕ) → carried_devices (if b then n else 0) p image ds bytes ≡ (if b then carried_devices n p image ds bytes else ds)
if_none true n p image ds bytes = refl
if_none false n p image ds bytes = refl

subs_are : (s : Saved) (p : Profile) (d : CommonValues) (o : RootValues) (ds : List CommonValues) → carried_devices (carried_subs p (image s)) p (image s) (map common_entries ds) (drop (subs_place (image s)) (image s)) ≡ updated_subs (kept p d o ds) (values s)
subs_are s p d o ds =
    let devices : List (List Entry) = map common_entries ds in
    let model : bytes_eq (take 2 (drop 9 (image s))) (word_slots p.sub.model) ≡ is_same_word s.before.sub.model p.sub.model = ap (λ (xs : List ℕ). bytes_eq xs (word_slots p.sub.model)) (sub_model_said s.maker (values s)) in
    let each : carried_devices (said_subs (image s)) p (image s) devices (drop (subs_place (image s)) (image s)) ≡ updated_devices s.before p devices (map common_entries s.subs) =
    ap (λ (n : ℕ). carried_devices n p (image s) devices (drop (subs_place (image s)) (image s))) (subs_count s) ∙ ap (carried_devices (length s.subs) p (image s) devices) (from_subs s) ∙ devices_are s.before p (image s) ds s.subs (sum_text (values_text s.maker (values s))) s.wholes (says_omitted s.maker (values s)) in
    if_none (bytes_eq (take 2 (drop 9 (image s))) (word_slots p.sub.model)) (said_subs (image s)) p (image s) devices (drop (subs_place (image s)) (image s)) ∙ if_same model each refl

-- ---- the whole

abbrev with_devices : Parameters → List Entry → List Entry → List (List Entry) → Parameters
with_devices p root added subs = record p { root = root; added = added; subs = subs }

devices_same : (p : Parameters) {a b c d : List Entry} {xs ys : List (List Entry)} → a ≡ b → c ≡ d → xs ≡ ys → with_devices p a c xs ≡ with_devices p b d ys
devices_same p e f g = rw (e, f, g) refl

carried_is : (s : Saved) (p : Profile) (d : CommonValues) (o : RootValues) (ds : List CommonValues) → carried (kept p d o ds) (image s) ≡ updated (kept p d o ds) (values s)
carried_is s p d o ds = devices_same (kept p d o ds) (root_is s p d o ds) (added_is s (kept p d o ds) (added_entries o.added.items)) (subs_are s p d o ds)

restored_is : (s : Saved) (now : Parameters) → says_profile now (image s) ≡ false → restored now (image s) ≡ carried now (image s)
unfolding restored
restored_is s now silent = rw silent refl

-- ---- that it isn't refused

sound_text : (bytes : List ℕ) → is_sound (bytes ++ sum_text bytes) ≡ true
sound_text bytes =
    let k : length (bytes ++ sum_text bytes) - 4 ≡ length bytes = omega (arith, length-append bytes (sum_text bytes)) in
    let front : take (length (bytes ++ sum_text bytes) - 4) (bytes ++ sum_text bytes) ≡ bytes = take_at bytes (sum_text bytes) _ (sym k) in
    let back : drop (length (bytes ++ sum_text bytes) - 4) (bytes ++ sum_text bytes) ≡ sum_text bytes = drop_at bytes (sum_text bytes) _ (sym k) in
    (bytes_eq-Decides _ _).1 (back ∙ ap sum_text (sym front))

is_whole : (maker : ℕ) (saved : Parameters) → is_sound (saved_text maker saved) ≡ true
unfolding saved_text
is_whole maker saved = sound_text (values_text maker saved)

model_said : (maker : ℕ) (saved : Parameters) → take 4 (saved_text maker saved) ≡ word_slots maker ++ word_slots saved.profile.root.model
unfolding saved_text
model_said maker saved = refl

model_same : (maker : ℕ) (now saved : Parameters) → now.profile.root.model ≡ saved.profile.root.model → is_of_model maker now (saved_text maker saved) ≡ true
model_same maker now saved same =
    (bytes_eq-Decides _ _).1 (model_said maker saved ∙ ap (λ (n : ℕ). word_slots maker ++ word_slots n) (sym same))

pub long_is : (s : Saved) → length (image s) ≡ said_len (image s)
long_is s =
    let text : List ℕ = device_text (twenty s.root s.own) in
    let sensors : List ℕ = device_text (sensor_entries 0 s.own.sensors.items) in
    let added : List ℕ = added_text (added_entries s.own.added.items) in
    let subs : List ℕ = flat_map device_text (map common_entries s.subs) in
    let sum : List ℕ = sum_text (values_text s.maker (values s)) in
    let whole : length (image s) ≡ length (head s.maker (values s) ++ behind_head s.maker (values s)) = ap length (image_is s.maker (values s)) in
    omega (arith, whole, length-append (head s.maker (values s)) (behind_head s.maker (values s)), head_size s.maker s.before (length (added_entries s.own.added.items)), root_at s.maker (values s), length-append (device_text (common_entries s.root ++ own_entries s.own)) (end s), ap length (root_text s.root s.own), length-append text sensors, length-append added (subs ++ sum), length-append subs sum, first_size s, sensors_size 0 s.own.sensors.items, sensors_count s, added_size (added_entries s.own.added.items) s.short, kept_count s, subs_size s.subs s.wholes, subs_count s)

accepted : (s : Saved) (now : Parameters) → now.profile.root.model ≡ s.before.root.model → says_profile now (image s) ≡ false → restore_refusal s.maker now (image s) ≡ None
unfolding restore_refusal
accepted s now same silent =
    rw (silent, eq-eqb (length (image s)) (said_len (image s)) (long_is s), is_whole s.maker (values s), model_same s.maker now (values s) same) refl

pub updated_is : (maker : ℕ) (p before : Profile) (root root' : CommonValues) (own own' : RootValues) (subs subs' : List CommonValues) → AreCounted before own' subs' → AreUpdated maker (kept p root own subs) (kept before root' own' subs')
updated_is maker p before root root' own own' subs subs' counted whole short wholes same silent =
    let s : Saved = record { maker = maker; before = before; root = root'; own = own'; subs = subs'; whole = whole; short = short; wholes = wholes; counted = counted } in
    (accepted s (kept p root own subs) same silent, restored_is s (kept p root own subs) silent ∙ carried_is s p root own subs)
