-- What is carried over, part by part.
use Rattle.std.proofs.Common.{◌≡◌, ℕ, zero, suc, ◌+◌, ◌-◌, ◌*◌, ◌<◌, List, [], ◌∷◌, ◌++◌, length, take, drop, get_or, map, set, refl, sym, ap, ◌∙◌, append_assoc, arith}
use Rattle.std.specs.Prelude.{min}
use Rattle.std.proofs.lemmas.List.{take_all, length-drop, take_more, take_more_set, take-append-drop, map-append, length-take, length-map}
use Rattle.rdm_profile.specs.declared.profile.Profile.{Profile}
use Rattle.rdm_added.specs.Map.{Entry, entry}
use Rattle.rdm_added.specs.Spot.{Spot, sub_device}
use Rattle.rdm_added.specs.Parameters.{Parameters}
use Rattle.rdm_added.specs.declared.state.CommonValues.{CommonValues}
use Rattle.rdm_added.specs.declared.state.RootValues.{RootValues}
use Rattle.rdm_added.specs.declared.state.Kept.{Kept}
use Rattle.rdm_added.specs.declared.state.Measured.{Measured}
use Rattle.rdm_added.specs.Views.State.{common_entries, own_entries, measured_slots, sensor_entries, kept_entry, added_entries}
use Rattle.rdm_saved.specs.SavedText.{kept}
use Rattle.rdm_saved.specs.SameProfile.{size, device_size, restored_value, restored_device}
use Rattle.rdm_saved.specs.Carrying.{carried_value, carried_values, carried_device, carried_devices, carried_sensors, carried_subs, carried_kept, carried, root_of, root_place, sensors_place, subs_place, said_sensors}
use Rattle.rdm_saved.proofs.Lists.{drop_drop}
use Rattle.rdm_saved.proofs.Sizes.{common_size, sensors_size}
use Rattle.rdm_saved.proofs.Restored.{restored_front, same_at}

two_same : {a a' b b' : List Entry} → a ≡ a' → b ≡ b' → a ++ b ≡ a' ++ b'
two_same e f = rw (e, f) refl

-- ---- a device

pub carried_append : (spot : Spot) (image : List ℕ) (xs ys : List Entry) (t : List ℕ) → carried_device spot image (xs ++ ys) t ≡ carried_device spot image xs t ++ carried_device spot image ys (drop (device_size xs) t)
carried_append spot image [] ys t = refl
carried_append spot image (x ∷ xs) ys t =
    ap (λ (es : List Entry). entry x.pid x.index (carried_value spot image x (entry x.pid x.index (restored_value x (take (size x.pid) t)))) ∷ es) (carried_append spot image xs ys (drop (size x.pid) t) ∙ ap (λ (bytes : List ℕ). carried_device spot image xs (drop (size x.pid) t) ++ carried_device spot image ys bytes) (drop_drop (size x.pid) (device_size xs) t))

-- the bytes behind theirs don't count
pub carried_front : (spot : Spot) (image : List ℕ) (es : List Entry) (k : ℕ) (t : List ℕ) → carried_device spot image es (take (device_size es + k) t) ≡ carried_device spot image es t
carried_front spot image es k t = ap (carried_values spot image es) (restored_front es k t)

-- ---- the root

ten_is : (o : RootValues) → take 10 (own_entries o) ≡ take 8 (own_entries o) ++ take 2 (drop 8 (own_entries o))
unfolding own_entries
ten_is o = refl

eight_size : (o : RootValues) → device_size (take 8 (own_entries o)) ≡ 15
unfolding own_entries
eight_size o = refl

moment_stays : (spot : Spot) (image : List ℕ) (o : RootValues) (t : List ℕ) → carried_device spot image (take 2 (drop 8 (own_entries o))) t ≡ take 2 (drop 8 (own_entries o))
unfolding own_entries
moment_stays spot image o t = refl

pub root_carried : (spot : Spot) (image t : List ℕ) (d d' : CommonValues) (o o' : RootValues) (numbers : List Entry) → common_entries d' ≡ carried_device spot image (common_entries d) (take 46 t) → numbers ≡ carried_device spot image (take 8 (own_entries o)) (take 15 (drop 46 t)) → take 8 (own_entries o') ≡ numbers → take 2 (drop 8 (own_entries o')) ≡ take 2 (drop 8 (own_entries o)) → common_entries d' ++ take 10 (own_entries o') ≡ carried_device spot image (common_entries d ++ take 10 (own_entries o)) t
root_carried spot image t d d' o o' numbers common number eight two =
    let here : 46 ≡ device_size (common_entries d) + 0 = omega (arith, common_size d) in
    let there : 15 ≡ device_size (take 8 (own_entries o)) + 0 = omega (arith, eight_size o) in
    let first : common_entries d' ≡ carried_device spot image (common_entries d) t = common ∙ ap (λ (n : ℕ). carried_device spot image (common_entries d) (take n t)) here ∙ carried_front spot image (common_entries d) 0 t in
    let second : take 8 (own_entries o') ≡ carried_device spot image (take 8 (own_entries o)) (drop 46 t) = eight ∙ number ∙ ap (λ (n : ℕ). carried_device spot image (take 8 (own_entries o)) (take n (drop 46 t))) there ∙ carried_front spot image (take 8 (own_entries o)) 0 (drop 46 t) in
    let third : take 2 (drop 8 (own_entries o')) ≡ carried_device spot image (take 2 (drop 8 (own_entries o))) (drop (device_size (take 8 (own_entries o))) (drop 46 t)) = two ∙ sym (moment_stays spot image o (drop (device_size (take 8 (own_entries o))) (drop 46 t))) in
    let own : take 10 (own_entries o') ≡ carried_device spot image (take 10 (own_entries o)) (drop 46 t) = ten_is o' ∙ two_same second third ∙ sym (carried_append spot image (take 8 (own_entries o)) (take 2 (drop 8 (own_entries o))) (drop 46 t)) ∙ ap (λ (es : List Entry). carried_device spot image es (drop 46 t)) (sym (ten_is o)) in
    two_same first (own ∙ ap (λ (n : ℕ). carried_device spot image (take 10 (own_entries o)) (drop n t)) (sym (common_size d))) ∙ sym (carried_append spot image (common_entries d) (take 10 (own_entries o)) t)

-- ---- sensors

sensors_append : (n : ℕ) (xs ys : List Measured) → sensor_entries n (xs ++ ys) ≡ sensor_entries n xs ++ sensor_entries (n + length xs) ys
sensors_append n [] ys = ap (λ (k : ℕ). sensor_entries k ys) (omega arith)
sensors_append n (x ∷ xs) ys =
    let next : suc n + length xs ≡ n + length (x ∷ xs) = omega arith in
    ap (λ (es : List Entry). entry 0x0201 n (measured_slots x) ∷ es) (sensors_append (suc n) xs ys ∙ ap (λ (k : ℕ). sensor_entries (suc n) xs ++ sensor_entries k ys) next)

sensors_take : (c n : ℕ) (ms : List Measured) → take c (sensor_entries n ms) ≡ sensor_entries n (take c ms)
sensors_take zero n ms = refl
sensors_take (suc c) n [] = refl
sensors_take (suc c) n (m ∷ ms) = ap (λ (es : List Entry). entry 0x0201 n (measured_slots m) ∷ es) (sensors_take c (suc n) ms)

sensors_drop : (c n : ℕ) (ms : List Measured) → drop c (sensor_entries n ms) ≡ sensor_entries (n + c) (drop c ms)
sensors_drop zero n ms = ap (λ (k : ℕ). sensor_entries k ms) (omega arith)
sensors_drop (suc c) n [] = refl
sensors_drop (suc c) n (m ∷ ms) = sensors_drop c (suc n) ms ∙ ap (λ (k : ℕ). sensor_entries k (drop c ms)) (omega arith)

sensors_length : (n : ℕ) (ms : List Measured) → length (sensor_entries n ms) ≡ length ms
sensors_length n [] = refl
sensors_length n (m ∷ ms) = omega (arith, sensors_length (suc n) ms)

restored_length : (es : List Entry) (t : List ℕ) → length (restored_device es t) ≡ length es
restored_length [] t = refl
restored_length (e ∷ es) t = omega (arith, restored_length es (drop (size e.pid) t))

take_least : {A : Type 0} (n : ℕ) (xs : List A) → take (min (length xs) n) xs ≡ take n xs
take_least zero xs =
    let none : min (length xs) zero ≡ zero = omega arith in
    rw none refl
take_least {A = A} (suc n) [] =
    let none : min (length {A = A} []) (suc n) ≡ zero = omega arith in
    rw none refl
take_least {A = A} (suc n) (x ∷ xs) =
    let e : min (length (x ∷ xs)) (suc n) ≡ suc (min (length xs) n) = omega arith in
    rw e (ap (λ (ys : List A). x ∷ ys) (take_least n xs))

drop_least : {A : Type 0} (n : ℕ) (xs : List A) → drop (min (length xs) n) xs ≡ drop n xs
drop_least zero xs =
    let none : min (length xs) zero ≡ zero = omega arith in
    rw none refl
drop_least {A = A} (suc n) [] =
    let none : min (length {A = A} []) (suc n) ≡ zero = omega arith in
    rw none refl
drop_least (suc n) (x ∷ xs) =
    let e : min (length (x ∷ xs)) (suc n) ≡ suc (min (length xs) n) = omega arith in
    rw e (drop_least n xs)

pub sensors_carried : (n c : ℕ) (ms first : List Measured) (t bytes : List ℕ) → c ≡ min (length ms) n → bytes ≡ take (2 * c) t → sensor_entries 0 first ≡ restored_device (sensor_entries 0 (take c ms)) bytes → sensor_entries 0 (first ++ drop c ms) ≡ carried_sensors n (sensor_entries 0 ms) t
sensors_carried n c ms first t bytes count front restored =
    let many : length (take c ms) ≡ c = omega (arith, length-take c ms, count) in
    let sizes : 2 * c ≡ device_size (sensor_entries 0 (take c ms)) + 0 = omega (arith, sensors_size 0 (take c ms), many) in
    let same : sensor_entries 0 first ≡ restored_device (sensor_entries 0 (take c ms)) t = restored ∙ ap (restored_device (sensor_entries 0 (take c ms))) (front ∙ ap (λ (k : ℕ). take k t) sizes) ∙ restored_front (sensor_entries 0 (take c ms)) 0 t in
    let as_many : 0 + length first ≡ 0 + c = omega (arith, sensors_length 0 first, ap length same, restored_length (sensor_entries 0 (take c ms)) t, sensors_length 0 (take c ms), many) in
    let least : c ≡ min (length (sensor_entries 0 ms)) n = omega (arith, count, sensors_length 0 ms) in
    let taken : sensor_entries 0 (take c ms) ≡ take n (sensor_entries 0 ms) = sym (sensors_take c 0 ms) ∙ ap (λ (k : ℕ). take k (sensor_entries 0 ms)) least ∙ take_least n (sensor_entries 0 ms) in
    let left : sensor_entries (0 + length first) (drop c ms) ≡ drop n (sensor_entries 0 ms) = ap (λ (k : ℕ). sensor_entries k (drop c ms)) as_many ∙ sym (sensors_drop c 0 ms) ∙ ap (λ (k : ℕ). drop k (sensor_entries 0 ms)) least ∙ drop_least n (sensor_entries 0 ms) in
    sensors_append 0 first (drop c ms) ∙ two_same (same ∙ ap (λ (es : List Entry). restored_device es t) taken) left

-- ---- parameters that the maker adds

pub added_carried : (p : Profile) (image : List ℕ) (i : ℕ) (now olds : List Kept) (new d : Kept) → i < length now → length now ≡ length olds → added_entries (take i now) ≡ map (λ (e : Entry). entry e.pid e.index (carried_kept p image e)) (added_entries (take i olds)) → drop i now ≡ drop i olds → kept_entry new ≡ entry (kept_entry (get_or now i d)).pid (kept_entry (get_or now i d)).index (carried_kept p image (kept_entry (get_or now i d))) → added_entries (take (i + 1) (set now i new)) ≡ map (λ (e : Entry). entry e.pid e.index (carried_kept p image e)) (added_entries (take (i + 1) olds))
added_carried p image i now olds new d lt len so_far others e =
    let f : Entry → Entry = λ (e : Entry). entry e.pid e.index (carried_kept p image e) in
    let old : Kept = get_or olds i d in
    let within : i < length olds = omega (arith, len, lt) in
    let made : kept_entry new ≡ f (kept_entry old) = e ∙ ap (λ (k : Kept). f (kept_entry k)) (same_at i now olds d others) in
    let left : added_entries (take (i + 1) (set now i new)) ≡ added_entries (take i now) ++ kept_entry new ∷ [] = ap (map kept_entry) (take_more_set now i new lt) ∙ map-append kept_entry (take i now) (new ∷ []) in
    let right : added_entries (take (i + 1) olds) ≡ added_entries (take i olds) ++ kept_entry old ∷ [] = ap (map kept_entry) (take_more olds i d within) ∙ map-append kept_entry (take i olds) (old ∷ []) in
    left ∙ ap (λ (es : List Entry). es ++ kept_entry new ∷ []) so_far ∙ ap (λ (x : Entry). map f (added_entries (take i olds)) ++ x ∷ []) made
    ∙ sym (map-append f (added_entries (take i olds)) (kept_entry old ∷ [])) ∙ ap (map f) (sym right)

-- ---- sub-devices

devices_more : (i : ℕ) (p : Profile) (image : List ℕ) (ds : List (List Entry)) (d : List Entry) (t : List ℕ) → length ds ≡ i → carried_devices (i + 1) p image (ds ++ d ∷ []) t ≡ carried_devices i p image ds t ++ carried_device (sub_device p d) image d (drop (46 * i) t) ∷ []
devices_more zero p image [] d t e = refl
devices_more zero p image (x ∷ xs) d t e = absurd (omega (arith, e))
devices_more (suc i) p image [] d t e = absurd (omega (arith, e))
devices_more (suc i) p image (x ∷ xs) d t e =
    let next : suc i + 1 ≡ suc (i + 1) = omega arith in
    let place : 46 + 46 * i ≡ 46 * suc i = omega arith in
    ap (λ (n : ℕ). carried_devices n p image ((x ∷ xs) ++ d ∷ []) t) next
    ∙ ap (λ (ds : List (List Entry)). carried_device (sub_device p x) image x t ∷ ds) (devices_more i p image xs d (drop 46 t) (omega (arith, e)) ∙ ap (λ (bytes : List ℕ). carried_devices i p image xs (drop 46 t) ++ carried_device (sub_device p d) image d bytes ∷ []) (drop_drop 46 (46 * i) t ∙ ap (λ (n : ℕ). drop n t) place))

pub each_carried : (p : Profile) (image : List ℕ) (i : ℕ) (now olds : List CommonValues) (new d : CommonValues) (t : List ℕ) → i < length now → length now ≡ length olds → map common_entries (take i now) ≡ carried_devices i p image (map common_entries (take i olds)) t → drop i now ≡ drop i olds → common_entries new ≡ carried_device (sub_device p (common_entries (get_or now i d))) image (common_entries (get_or now i d)) (take 46 (drop (46 * i) t)) → map common_entries (take (i + 1) (set now i new)) ≡ carried_devices (i + 1) p image (map common_entries (take (i + 1) olds)) t
each_carried p image i now olds new d t lt len so_far others e =
    let old : CommonValues = get_or olds i d in
    let within : i < length olds = omega (arith, len, lt) in
    let piece : 46 ≡ device_size (common_entries old) + 0 = omega (arith, common_size old) in
    let made : common_entries new ≡ carried_device (sub_device p (common_entries old)) image (common_entries old) (drop (46 * i) t) =
    e ∙ ap (λ (o : CommonValues). carried_device (sub_device p (common_entries o)) image (common_entries o) (take 46 (drop (46 * i) t))) (same_at i now olds d others) ∙ ap (λ (n : ℕ). carried_device (sub_device p (common_entries old)) image (common_entries old) (take n (drop (46 * i) t))) piece ∙ carried_front (sub_device p (common_entries old)) image (common_entries old) 0 (drop (46 * i) t) in
    let left : map common_entries (take (i + 1) (set now i new)) ≡ map common_entries (take i now) ++ common_entries new ∷ [] = ap (map common_entries) (take_more_set now i new lt) ∙ map-append common_entries (take i now) (new ∷ []) in
    let right : map common_entries (take (i + 1) olds) ≡ map common_entries (take i olds) ++ common_entries old ∷ [] = ap (map common_entries) (take_more olds i d within) ∙ map-append common_entries (take i olds) (old ∷ []) in
    let many : length (map common_entries (take i olds)) ≡ i = omega (arith, length-map (take i olds) common_entries, length-take i olds, within) in
    left ∙ ap (λ (ds : List (List Entry)). ds ++ common_entries new ∷ []) so_far ∙ ap (λ (es : List Entry). carried_devices i p image (map common_entries (take i olds)) t ++ es ∷ []) made
    ∙ sym (devices_more i p image (map common_entries (take i olds)) (common_entries old) t many) ∙ ap (λ (ds : List (List Entry)). carried_devices (i + 1) p image ds t) (sym right)

-- those that aren't among the first stay
devices_split : (n : ℕ) (p : Profile) (image : List ℕ) (ds : List (List Entry)) (t : List ℕ) → carried_devices n p image ds t ≡ carried_devices (min (length ds) n) p image (take (min (length ds) n) ds) t ++ drop (min (length ds) n) ds
devices_split zero p image ds t =
    let none : min (length ds) zero ≡ zero = omega arith in
    rw none refl
devices_split (suc n) p image [] t =
    let none : min (length {A = List Entry} []) (suc n) ≡ zero = omega arith in
    rw none refl
devices_split (suc n) p image (d ∷ ds) t =
    let more : min (length (d ∷ ds)) (suc n) ≡ suc (min (length ds) n) = omega arith in
    rw more (ap (λ (xs : List (List Entry)). carried_device (sub_device p d) image d t ∷ xs) (devices_split n p image ds (drop 46 t)))

map_drop : {A B : Type 0} (f : A → B) (n : ℕ) (xs : List A) → map f (drop n xs) ≡ drop n (map f xs)
map_drop f zero xs = refl
map_drop f (suc n) [] = refl
map_drop f (suc n) (x ∷ xs) = map_drop f n xs

map_take : {A B : Type 0} (f : A → B) (n : ℕ) (xs : List A) → map f (take n xs) ≡ take n (map f xs)
map_take f zero xs = refl
map_take f (suc n) [] = refl
map_take {B = B} f (suc n) (x ∷ xs) = ap (λ (ys : List B). f x ∷ ys) (map_take f n xs)

lists_same : {a a' b b' : List (List Entry)} → a ≡ a' → b ≡ b' → a ++ b ≡ a' ++ b'
lists_same e f = rw (e, f) refl

pub subs_carried : (p : Profile) (image : List ℕ) (n c : ℕ) (now olds : List CommonValues) (t : List ℕ) → c ≡ min (length olds) n → map common_entries (take c now) ≡ carried_devices c p image (map common_entries (take c olds)) t → drop c now ≡ drop c olds → map common_entries now ≡ carried_devices n p image (map common_entries olds) t
subs_carried p image n c now olds t count done others =
    let ds : List (List Entry) = map common_entries olds in
    let least : c ≡ min (length ds) n = omega (arith, count, length-map olds common_entries) in
    let whole : map common_entries now ≡ map common_entries (take c now) ++ map common_entries (drop c now) = ap (map common_entries) (sym (take-append-drop c now)) ∙ map-append common_entries (take c now) (drop c now) in
    let front : map common_entries (take c now) ≡ carried_devices (min (length ds) n) p image (take (min (length ds) n) ds) t = done ∙ ap (λ (xs : List (List Entry)). carried_devices c p image xs t) (map_take common_entries c olds) ∙ ap (λ (k : ℕ). carried_devices k p image (take k ds) t) least in
    let back : map common_entries (drop c now) ≡ drop (min (length ds) n) ds = ap (map common_entries) others ∙ map_drop common_entries c olds ∙ ap (λ (k : ℕ). drop k ds) least in
    whole ∙ lists_same front back ∙ sym (devices_split n p image ds t)

-- ---- all parts

own_parts : (o : RootValues) → own_entries o ≡ take 10 (own_entries o) ++ sensor_entries 0 o.sensors.items
unfolding own_entries
own_parts o = refl

twenty_is : (d : CommonValues) (o : RootValues) → take 20 (common_entries d ++ own_entries o) ≡ common_entries d ++ take 10 (own_entries o)
unfolding common_entries own_entries
twenty_is d o = refl

sensors_behind : (d : CommonValues) (o : RootValues) → drop 20 (common_entries d ++ own_entries o) ≡ sensor_entries 0 o.sensors.items
unfolding common_entries own_entries
sensors_behind d o = refl

abbrev with_values : Profile → List Entry → List Entry → List (List Entry) → Parameters
with_values p root added subs = record { profile = p; root = root; added = added; subs = subs }

values_same : (p : Profile) {a b c d : List Entry} {xs ys : List (List Entry)} → a ≡ b → c ≡ d → xs ≡ ys → with_values p a c xs ≡ with_values p b d ys
values_same p e f g = rw (e, f, g) refl

pub carried_is : (p : Profile) (d d' : CommonValues) (o o' : RootValues) (ds ds' : List CommonValues) (image : List ℕ) → common_entries d' ++ take 10 (own_entries o') ≡ carried_device (root_of (kept p d o [])) image (common_entries d ++ take 10 (own_entries o)) (drop (root_place image) image) → sensor_entries 0 o'.sensors.items ≡ carried_sensors (said_sensors image) (sensor_entries 0 o.sensors.items) (drop (sensors_place image) image) → added_entries o'.added.items ≡ map (λ (e : Entry). entry e.pid e.index (carried_kept p image e)) (added_entries o.added.items) → map common_entries ds' ≡ carried_devices (carried_subs p image) p image (map common_entries ds) (drop (subs_place image) image) → kept p d' o' ds' ≡ carried (kept p d o ds) image
carried_is p d d' o o' ds ds' image root sensors added subs =
    let spot : Spot = root_of (kept p d o ds) in
    let bytes : List ℕ = drop (root_place image) image in
    let front : common_entries d' ++ take 10 (own_entries o') ≡ carried_device spot image (take 20 (common_entries d ++ own_entries o)) bytes = root ∙ ap (λ (es : List Entry). carried_device spot image es bytes) (sym (twenty_is d o)) in
    let back : sensor_entries 0 o'.sensors.items ≡ carried_sensors (said_sensors image) (drop 20 (common_entries d ++ own_entries o)) (drop (sensors_place image) image) = sensors ∙ ap (λ (es : List Entry). carried_sensors (said_sensors image) es (drop (sensors_place image) image)) (sym (sensors_behind d o)) in
    values_same p (ap (λ (es : List Entry). common_entries d' ++ es) (own_parts o') ∙ sym (append_assoc (common_entries d') (take 10 (own_entries o')) (sensor_entries 0 o'.sensors.items)) ∙ two_same front back) added subs

-- ---- pieces

pub all_behind : (place : ℕ) (image : List ℕ) → take (length image - place) (drop place image) ≡ drop place image
all_behind place image = take_all (length image - place) (drop place image) (omega (arith, length-drop place image))

pub piece_at : (size i place : ℕ) (image : List ℕ) → take (size * i + size - size * i) (drop (size * i) (take (length image - place) (drop place image))) ≡ take size (drop (size * i) (drop place image))
piece_at size i place image =
    let piece : size * i + size - size * i ≡ size = omega arith in
    ap (λ (n : ℕ). take n (drop (size * i) (take (length image - place) (drop place image)))) piece ∙ ap (λ (xs : List ℕ). take size (drop (size * i) xs)) (all_behind place image)

pub piece_from : (size place : ℕ) (image : List ℕ) → take (place + size - place) (drop place image) ≡ take size (drop place image)
piece_from size place image =
    let piece : place + size - place ≡ size = omega arith in
    ap (λ (n : ℕ). take n (drop place image)) piece
