-- What is restored from the parts of an image.
use Rattle.std.proofs.Common.{◌≡◌, ℕ, suc, ◌+◌, ◌*◌, ◌<◌, List, [], ◌∷◌, ◌++◌, length, take, drop, get_or, map, set, refl, sym, ap, ◌∙◌, arith}
use Rattle.std.proofs.lemmas.List.{drop-take, take-append-drop, take_more, take_more_set, drop-set-lt, map-append, get_or-drop, length-take, length-map}
use Rattle.std.proofs.Math.Seq.{drop-append_seam, take-append_seam}
use Rattle.rdm_saved.proofs.Lists.{drop_drop, take_take, items_from, items_from-take, items_all}
use Rattle.rdm_saved.proofs.Sizes.{size_append, common_size, own_size, subs_size, sensors_size}
use Rattle.rdm_profile.specs.declared.profile.Profile.{Profile}
use Rattle.rdm_added.specs.Parameters.{Parameters}
use Rattle.rdm_saved.specs.SavedText.{kept}
use Rattle.rdm_added.specs.declared.state.CommonValues.{CommonValues}
use Rattle.rdm_added.specs.declared.state.RootValues.{RootValues}
use Rattle.rdm_added.specs.declared.state.Kept.{Kept}
use Rattle.rdm_added.specs.declared.state.Measured.{Measured}
use Rattle.rdm_added.specs.Map.{Entry, entry}
use Rattle.rdm_added.specs.Views.State.{common_entries, own_entries, sensor_entries, measured_slots, kept_entry, added_entries}
use Rattle.rdm_saved.specs.SameProfile.{size, device_size, devices_size, restored_value, restored_device, restored_kept, restored_added, restored_devices, restored_whole, added_size, profile_size}

-- the numbers behind a label
drop_label : (label rest : List ℕ) → length label ≡ 32 → drop 32 (label ++ rest) ≡ rest
drop_label label rest len = rw (← len) (drop-append_seam label rest)

take_label : (label rest : List ℕ) → length label ≡ 32 → take 32 (label ++ rest) ≡ label
take_label label rest len = rw (← len) (take-append_seam label rest)

-- what is restored of the values of every device
abbrev pub common_from : CommonValues → ℕ → ℕ → List ℕ → ℕ → List ℕ → List ℕ → List ℕ → ℕ → List Entry
common_from d threshold len label personality start hours strikes mode =
    entry 0x0033 0 (threshold ∷ [])
    ∷ entry 0x0082 0 (take len label)
    ∷ entry 0x00E0 0 (personality ∷ [])
    ∷ entry 0x00F0 0 start
    ∷ entry 0x0401 0 hours
    ∷ entry 0x0402 0 strikes
    ∷ entry 0x0403 0 (d.lamp_state ∷ [])
    ∷ entry 0x0404 0 (mode ∷ [])
    ∷ entry 0x1000 0 (d.identify ∷ [])
    ∷ entry 0x1010 0 (d.power_state ∷ [])
    ∷ []

pub common_is : (d : CommonValues) (threshold len personality s0 s1 h0 h1 h2 h3 k0 k1 k2 k3 mode : ℕ) (label : List ℕ) → length label ≡ 32 → restored_device (common_entries d) (threshold ∷ len ∷ (label ++ personality ∷ s0 ∷ s1 ∷ h0 ∷ h1 ∷ h2 ∷ h3 ∷ k0 ∷ k1 ∷ k2 ∷ k3 ∷ mode ∷ [])) ≡ common_from d threshold len label personality (s0 ∷ s1 ∷ []) (h0 ∷ h1 ∷ h2 ∷ h3 ∷ []) (k0 ∷ k1 ∷ k2 ∷ k3 ∷ []) mode
unfolding common_entries
common_is d threshold len personality s0 s1 h0 h1 h2 h3 k0 k1 k2 k3 mode label e =
    rw (drop_label label (personality ∷ s0 ∷ s1 ∷ h0 ∷ h1 ∷ h2 ∷ h3 ∷ k0 ∷ k1 ∷ k2 ∷ k3 ∷ mode ∷ []) e, take_label label (personality ∷ s0 ∷ s1 ∷ h0 ∷ h1 ∷ h2 ∷ h3 ∷ k0 ∷ k1 ∷ k2 ∷ k3 ∷ mode ∷ []) e) refl

-- 46 bytes, in their three parts
parts_of : (t front rest label numbers : List ℕ) → length t ≡ 46 → front ≡ take 2 t → rest ≡ drop 2 t → length front ≡ 2 → label ≡ take 32 rest → numbers ≡ drop 32 rest → length numbers ≡ 12 → t ≡ get_or front 0 0 ∷ get_or front 1 0 ∷ (label ++ items_from 12 0 numbers)
parts_of t front rest label numbers len ef er lf el en ln =
    let behind : rest ≡ label ++ items_from 12 0 numbers = sym (take-append-drop 32 rest) ∙ rw (← el, ← en) (ap (λ (xs : List ℕ). label ++ xs) (items_all 12 numbers ln)) in
    let before : take 2 t ≡ items_from 2 0 front = sym ef ∙ items_all 2 front lf in
    sym (take-append-drop 2 t) ∙ ap (λ (xs : List ℕ). xs ++ drop 2 t) before ∙ ap (λ (xs : List ℕ). items_from 2 0 front ++ xs) (sym er ∙ behind)

common_same : (d : CommonValues) (a n p m : ℕ) {l l' start start' hours hours' strikes strikes' : List ℕ} → l ≡ l' → start ≡ start' → hours ≡ hours' → strikes ≡ strikes' → common_from d a n l p start hours strikes m ≡ common_from d a n l' p start' hours' strikes' m
common_same d a n p m el es eh ek = rw (el, es, eh, ek) refl

-- what is restored, from the three parts
pub common_restored : (d : CommonValues) (t front rest label numbers start hours strikes : List ℕ) → length t ≡ 46 → front ≡ take 2 t → rest ≡ drop 2 t → length front ≡ 2 → label ≡ take 32 rest → length label ≡ 32 → numbers ≡ drop 32 rest → length numbers ≡ 12 → start ≡ get_or numbers 1 0 ∷ get_or numbers 2 0 ∷ [] → hours ≡ get_or numbers 3 0 ∷ get_or numbers 4 0 ∷ get_or numbers 5 0 ∷ get_or numbers 6 0 ∷ [] → strikes ≡ get_or numbers 7 0 ∷ get_or numbers 8 0 ∷ get_or numbers 9 0 ∷ get_or numbers 10 0 ∷ [] → common_from d (get_or front 0 0) (get_or front 1 0) label (get_or numbers 0 0) start hours strikes (get_or numbers 11 0) ≡ restored_device (common_entries d) t
common_restored d t front rest label numbers start hours strikes len ef er lf el ll en ln es eh ek =
    let whole = parts_of t front rest label numbers len ef er lf el en ln in
    common_same d (get_or front 0 0) (get_or front 1 0) (get_or numbers 0 0) (get_or numbers 11 0) refl es eh ek
    ∙ sym (common_is d (get_or front 0 0) (get_or front 1 0) (get_or numbers 0 0) (get_or numbers 1 0) (get_or numbers 2 0) (get_or numbers 3 0) (get_or numbers 4 0) (get_or numbers 5 0) (get_or numbers 6 0) (get_or numbers 7 0) (get_or numbers 8 0) (get_or numbers 9 0) (get_or numbers 10 0) (get_or numbers 11 0) label ll)
    ∙ ap (restored_device (common_entries d)) (sym whole)

-- ---- devices in parts

entry_same : (e : Entry) {a b : List ℕ} {xs ys : List Entry} → a ≡ b → xs ≡ ys → entry e.pid e.index (restored_value e a) ∷ xs ≡ entry e.pid e.index (restored_value e b) ∷ ys
entry_same e p q = rw (p, q) refl

pub restored_append : (xs ys : List Entry) (t : List ℕ) → restored_device (xs ++ ys) t ≡ restored_device xs t ++ restored_device ys (drop (device_size xs) t)
restored_append [] ys t = refl
restored_append (x ∷ xs) ys t =
    entry_same x refl (restored_append xs ys (drop (size x.pid) t) ∙ ap (λ (bytes : List ℕ). restored_device xs (drop (size x.pid) t) ++ restored_device ys bytes) (drop_drop (size x.pid) (device_size xs) t))

-- the bytes behind those of a device don't count
pub restored_front : (es : List Entry) (k : ℕ) (t : List ℕ) → restored_device es (take (device_size es + k) t) ≡ restored_device es t
restored_front [] k t = refl
restored_front (e ∷ es) k t =
    let sum : size e.pid + device_size es + k ≡ size e.pid + (device_size es + k) = omega arith in
    ap (λ (n : ℕ). restored_device (e ∷ es) (take n t)) sum
    ∙ entry_same e (take_take (size e.pid) (device_size es + k) t) (ap (restored_device es) (drop-take (size e.pid) (device_size es + k) t) ∙ restored_front es k (drop (size e.pid) t))

devices_append : (xs ys : List (List Entry)) (t : List ℕ) → restored_devices (xs ++ ys) t ≡ restored_devices xs t ++ restored_devices ys (drop (devices_size xs) t)
devices_append [] ys t = refl
devices_append (x ∷ xs) ys t =
    ap (λ (ds : List (List Entry)). restored_device x t ∷ ds) (devices_append xs ys (drop (device_size x) t) ∙ ap (λ (bytes : List ℕ). restored_devices xs (drop (device_size x) t) ++ restored_devices ys bytes) (drop_drop (device_size x) (devices_size xs) t))

-- an element before which another list is as this one
pub same_at : {A : Type 0} (i : ℕ) (now olds : List A) (d : A) → drop i now ≡ drop i olds → get_or now i d ≡ get_or olds i d
same_at i now olds d e =
    let here : i + 0 ≡ i = omega arith in
    ap (λ (k : ℕ). get_or now k d) (sym here) ∙ sym (get_or-drop i now 0 d) ∙ ap (λ xs. get_or xs 0 d) e ∙ get_or-drop i olds 0 d ∙ ap (λ (k : ℕ). get_or olds k d) here

pub others_after : {A : Type 0} (i : ℕ) (now olds : List A) (new : A) → drop i now ≡ drop i olds → drop (i + 1) (set now i new) ≡ drop (i + 1) olds
others_after i now olds new e = drop-set-lt (i + 1) now i new (omega arith) ∙ sym (drop_drop i 1 now) ∙ ap (λ xs. drop 1 xs) e ∙ drop_drop i 1 olds

-- one more sub-device
pub each_restored : (i : ℕ) (now olds : List CommonValues) (new d : CommonValues) (t : List ℕ) → i < length now → length now ≡ length olds → map common_entries (take i now) ≡ restored_devices (map common_entries (take i olds)) t → drop i now ≡ drop i olds → common_entries new ≡ restored_device (common_entries (get_or now i d)) (take 46 (drop (46 * i) t)) → map common_entries (take (i + 1) (set now i new)) ≡ restored_devices (map common_entries (take (i + 1) olds)) t
each_restored i now olds new d t lt len so_far others e =
    let old : CommonValues = get_or olds i d in
    let within : i < length olds = omega (arith, len, lt) in
    let before : devices_size (map common_entries (take i olds)) ≡ 46 * i = omega (arith, subs_size (take i olds), length-take i olds, within) in
    let piece : 46 ≡ device_size (common_entries old) + 0 = omega (arith, common_size old) in
    let made : common_entries new ≡ restored_device (common_entries old) (drop (46 * i) t) = e ∙ ap (λ (o : CommonValues). restored_device (common_entries o) (take 46 (drop (46 * i) t))) (same_at i now olds d others) ∙ ap (λ (n : ℕ). restored_device (common_entries old) (take n (drop (46 * i) t))) piece ∙ restored_front (common_entries old) 0 (drop (46 * i) t) in
    let left : map common_entries (take (i + 1) (set now i new)) ≡ map common_entries (take i now) ++ common_entries new ∷ [] = ap (map common_entries) (take_more_set now i new lt) ∙ map-append common_entries (take i now) (new ∷ []) in
    let right : map common_entries (take (i + 1) olds) ≡ map common_entries (take i olds) ++ common_entries old ∷ [] = ap (map common_entries) (take_more olds i d within) ∙ map-append common_entries (take i olds) (old ∷ []) in
    left ∙ ap (λ (ds : List (List Entry)). ds ++ common_entries new ∷ []) so_far ∙ ap (λ (es : List Entry). restored_devices (map common_entries (take i olds)) t ++ es ∷ []) made
    ∙ ap (λ (n : ℕ). restored_devices (map common_entries (take i olds)) t ++ restored_device (common_entries old) (drop n t) ∷ []) (sym before)
    ∙ sym (devices_append (map common_entries (take i olds)) (common_entries old ∷ []) t) ∙ ap (λ (ds : List (List Entry)). restored_devices ds t) (sym right)

-- ---- parameters that the maker adds

kept_same : (e : Entry) {a b : List ℕ} {xs ys : List Entry} → a ≡ b → xs ≡ ys → restored_kept e a ∷ xs ≡ restored_kept e b ∷ ys
kept_same e p q = rw (p, q) refl

added_append : (xs ys : List Entry) (t : List ℕ) → restored_added (xs ++ ys) t ≡ restored_added xs t ++ restored_added ys (drop (37 * length xs) t)
added_append [] ys t = refl
added_append (x ∷ xs) ys t =
    let place : 37 + 37 * length xs ≡ 37 * length (x ∷ xs) = omega arith in
    kept_same x {a = take 37 t} {b = take 37 t} refl (added_append xs ys (drop 37 t) ∙ ap (λ (bytes : List ℕ). restored_added xs (drop 37 t) ++ restored_added ys bytes) (drop_drop 37 (37 * length xs) t ∙ ap (λ (n : ℕ). drop n t) place))

-- the bytes behind theirs don't count
added_front : (es : List Entry) (k : ℕ) (t : List ℕ) → restored_added es (take (37 * length es + k) t) ≡ restored_added es t
added_front [] k t = refl
added_front (e ∷ es) k t =
    let sum : 37 * length (e ∷ es) + k ≡ 37 + (37 * length es + k) = omega arith in
    ap (λ (n : ℕ). restored_added (e ∷ es) (take n t)) sum
    ∙ kept_same e (take_take 37 (37 * length es + k) t) (ap (restored_added es) (drop-take 37 (37 * length es + k) t) ∙ added_front es k (drop 37 t))

-- one more
pub added_restored : (i : ℕ) (now olds : List Kept) (new d : Kept) (t : List ℕ) → i < length now → length now ≡ length olds → added_entries (take i now) ≡ restored_added (added_entries (take i olds)) t → drop i now ≡ drop i olds → kept_entry new ≡ restored_kept (kept_entry (get_or now i d)) (take 37 (drop (37 * i) t)) → added_entries (take (i + 1) (set now i new)) ≡ restored_added (added_entries (take (i + 1) olds)) t
added_restored i now olds new d t lt len so_far others e =
    let old : Kept = get_or olds i d in
    let within : i < length olds = omega (arith, len, lt) in
    let before : 37 * length (added_entries (take i olds)) ≡ 37 * i = omega (arith, length-map (take i olds) kept_entry, length-take i olds, within) in
    let made : kept_entry new ≡ restored_kept (kept_entry old) (take 37 (drop (37 * i) t)) = e ∙ ap (λ (k : Kept). restored_kept (kept_entry k) (take 37 (drop (37 * i) t))) (same_at i now olds d others) in
    let left : added_entries (take (i + 1) (set now i new)) ≡ added_entries (take i now) ++ kept_entry new ∷ [] = ap (map kept_entry) (take_more_set now i new lt) ∙ map-append kept_entry (take i now) (new ∷ []) in
    let right : added_entries (take (i + 1) olds) ≡ added_entries (take i olds) ++ kept_entry old ∷ [] = ap (map kept_entry) (take_more olds i d within) ∙ map-append kept_entry (take i olds) (old ∷ []) in
    left ∙ ap (λ (es : List Entry). es ++ kept_entry new ∷ []) so_far ∙ ap (λ (x : Entry). restored_added (added_entries (take i olds)) t ++ x ∷ []) made
    ∙ ap (λ (n : ℕ). restored_added (added_entries (take i olds)) t ++ restored_kept (kept_entry old) (take 37 (drop n t)) ∷ []) (sym before)
    ∙ sym (added_append (added_entries (take i olds)) (kept_entry old ∷ []) t) ∙ ap (λ (es : List Entry). restored_added es t) (sym right)

-- ---- sensors

push_from : (n k : ℕ) (ms : List Measured) (m : Measured) → length ms ≡ k → sensor_entries n (ms ++ m ∷ []) ≡ sensor_entries n ms ++ entry 0x0201 (n + k) (measured_slots m) ∷ []
push_from n k [] m e = ap (λ (i : ℕ). entry 0x0201 i (measured_slots m) ∷ []) (omega (arith, e))
push_from n k (x ∷ ms) m e =
    let i : suc n + length ms ≡ n + k = omega (arith, e) in
    ap (λ (es : List Entry). entry 0x0201 n (measured_slots x) ∷ es) (push_from (suc n) (length ms) ms m refl ∙ ap (λ (j : ℕ). sensor_entries (suc n) ms ++ entry 0x0201 j (measured_slots m) ∷ []) i)

-- one more sensor
pub sensor_restored : (i : ℕ) (now olds : List Measured) (new d : Measured) (t : List ℕ) → i < length now → length now ≡ length olds → length t ≡ 2 * length olds → sensor_entries 0 (take i now) ≡ restored_device (sensor_entries 0 (take i olds)) t → drop i now ≡ drop i olds → measured_slots new ≡ take 6 (measured_slots (get_or now i d)) ++ get_or t (2 * i) 0 ∷ get_or t (2 * i + 1) 0 ∷ [] → sensor_entries 0 (take (i + 1) (set now i new)) ≡ restored_device (sensor_entries 0 (take (i + 1) olds)) t
sensor_restored i now olds new d t lt len fits so_far others e =
    let old : Measured = get_or olds i d in
    let within : i < length olds = omega (arith, len, lt) in
    let before : device_size (sensor_entries 0 (take i olds)) ≡ 2 * i = omega (arith, sensors_size 0 (take i olds), length-take i olds, within) in
    let next : suc (2 * i) ≡ 2 * i + 1 = omega arith in
    let two : get_or t (2 * i) 0 ∷ get_or t (2 * i + 1) 0 ∷ [] ≡ take 2 (drop (2 * i) t) = ap (λ (k : ℕ). get_or t (2 * i) 0 ∷ get_or t k 0 ∷ []) (sym next) ∙ items_from-take 2 (2 * i) t (omega (arith, fits, within)) in
    let made : measured_slots new ≡ take 6 (measured_slots old) ++ take 2 (drop (2 * i) t) = e ∙ ap (λ (o : Measured). take 6 (measured_slots o) ++ get_or t (2 * i) 0 ∷ get_or t (2 * i + 1) 0 ∷ []) (same_at i now olds d others) ∙ ap (λ (bytes : List ℕ). take 6 (measured_slots old) ++ bytes) two in
    let zero_i : 0 + i ≡ i = omega arith in
    let left : sensor_entries 0 (take (i + 1) (set now i new)) ≡ sensor_entries 0 (take i now) ++ entry 0x0201 (0 + i) (measured_slots new) ∷ [] = ap (sensor_entries 0) (take_more_set now i new lt) ∙ push_from 0 i (take i now) new (omega (arith, length-take i now, lt)) in
    let right : sensor_entries 0 (take (i + 1) olds) ≡ sensor_entries 0 (take i olds) ++ entry 0x0201 (0 + i) (measured_slots old) ∷ [] = ap (sensor_entries 0) (take_more olds i d within) ∙ push_from 0 i (take i olds) old (omega (arith, length-take i olds, within)) in
    left ∙ ap (λ (es : List Entry). es ++ entry 0x0201 (0 + i) (measured_slots new) ∷ []) so_far
    ∙ ap (λ (bytes : List ℕ). restored_device (sensor_entries 0 (take i olds)) t ++ entry 0x0201 (0 + i) bytes ∷ []) made
    ∙ ap (λ (n : ℕ). restored_device (sensor_entries 0 (take i olds)) t ++ entry 0x0201 (0 + i) (take 6 (measured_slots old) ++ take 2 (drop n t)) ∷ []) (sym before)
    ∙ sym (restored_append (sensor_entries 0 (take i olds)) (entry 0x0201 (0 + i) (measured_slots old) ∷ []) t) ∙ ap (λ (es : List Entry). restored_device es t) (sym right)

-- ---- all parts

two_same : {a a' b b' : List Entry} → a ≡ a' → b ≡ b' → a ++ b ≡ a' ++ b'
two_same e f = rw (e, f) refl

pub root_parts : (d d' : CommonValues) (o o' : RootValues) (t common rest beside : List ℕ) → common ≡ take 46 t → rest ≡ drop 46 t → beside ≡ take (15 + 2 * length o.sensors.items) rest → common_entries d' ≡ restored_device (common_entries d) common → own_entries o' ≡ restored_device (own_entries o) beside → common_entries d' ++ own_entries o' ≡ restored_device (common_entries d ++ own_entries o) t
root_parts d d' o o' t common rest beside ec er eb made_d made_o =
    let size_d : 46 ≡ device_size (common_entries d) + 0 = omega (arith, common_size d) in
    let size_o : 15 + 2 * length o.sensors.items ≡ device_size (own_entries o) + 0 = omega (arith, own_size o) in
    let first : common_entries d' ≡ restored_device (common_entries d) t = made_d ∙ ap (restored_device (common_entries d)) (ec ∙ ap (λ (n : ℕ). take n t) size_d) ∙ restored_front (common_entries d) 0 t in
    let second : own_entries o' ≡ restored_device (own_entries o) (drop (device_size (common_entries d)) t) = made_o ∙ ap (restored_device (own_entries o)) (eb ∙ ap (λ (n : ℕ). take n rest) size_o) ∙ restored_front (own_entries o) 0 rest ∙ ap (restored_device (own_entries o)) (er ∙ ap (λ (n : ℕ). drop n t) (sym (common_size d))) in
    two_same first second ∙ sym (restored_append (common_entries d) (own_entries o) t)

devices_front : (ds : List (List Entry)) (k : ℕ) (t : List ℕ) → restored_devices ds (take (devices_size ds + k) t) ≡ restored_devices ds t
devices_front [] k t = refl
devices_front (d ∷ ds) k t =
    let sum : device_size d + devices_size ds + k ≡ device_size d + (devices_size ds + k) = omega arith in
    ap (λ (n : ℕ). restored_devices (d ∷ ds) (take n t)) sum
    ∙ ap (λ (es : List Entry). es ∷ restored_devices ds (drop (device_size d) (take (device_size d + (devices_size ds + k)) t))) (restored_front d (devices_size ds + k) t)
    ∙ ap (λ (es : List (List Entry)). restored_device d t ∷ es) (ap (restored_devices ds) (drop-take (device_size d) (devices_size ds + k) t) ∙ devices_front ds k (drop (device_size d) t))

pub added_parts : (ks : List Kept) (now : List Entry) (n : ℕ) (t rest behind added : List ℕ) → rest ≡ drop 46 t → behind ≡ drop (15 + 2 * n) rest → added ≡ take (37 * length ks) behind → now ≡ restored_added (added_entries ks) added → now ≡ restored_added (added_entries ks) (drop (61 + 2 * n) t)
added_parts ks now n t rest behind added er eb ea made =
    let sizes : 37 * length ks ≡ 37 * length (added_entries ks) + 0 = omega (arith, length-map ks kept_entry) in
    let place : 46 + (15 + 2 * n) ≡ 61 + 2 * n = omega arith in
    let behind_is : behind ≡ drop (61 + 2 * n) t = eb ∙ ap (drop (15 + 2 * n)) er ∙ drop_drop 46 (15 + 2 * n) t ∙ ap (λ (k : ℕ). drop k t) place in
    made ∙ ap (restored_added (added_entries ks)) (ea ∙ ap (λ (k : ℕ). take k behind) sizes) ∙ added_front (added_entries ks) 0 behind ∙ ap (restored_added (added_entries ks)) behind_is

pub subs_parts : (ds ds' : List CommonValues) (n a : ℕ) (t rest behind after each : List ℕ) → rest ≡ drop 46 t → behind ≡ drop (15 + 2 * n) rest → after ≡ drop (37 * a) behind → each ≡ take (46 * length ds) after → map common_entries ds' ≡ restored_devices (map common_entries ds) each → map common_entries ds' ≡ restored_devices (map common_entries ds) (drop (61 + 2 * n + 37 * a) t)
subs_parts ds ds' n a t rest behind after each er eb ea ee made =
    let sizes : 46 * length ds ≡ devices_size (map common_entries ds) + 0 = omega (arith, subs_size ds) in
    let place : 46 + (15 + 2 * n) ≡ 61 + 2 * n = omega arith in
    let behind_is : behind ≡ drop (61 + 2 * n) t = eb ∙ ap (drop (15 + 2 * n)) er ∙ drop_drop 46 (15 + 2 * n) t ∙ ap (λ (k : ℕ). drop k t) place in
    let after_is : after ≡ drop (61 + 2 * n + 37 * a) t = ea ∙ ap (drop (37 * a)) behind_is ∙ drop_drop (61 + 2 * n) (37 * a) t in
    made ∙ ap (restored_devices (map common_entries ds)) (ee ∙ ap (λ (k : ℕ). take k after) sizes) ∙ devices_front (map common_entries ds) 0 after ∙ ap (restored_devices (map common_entries ds)) after_is

abbrev with_devices : Profile → List Entry → List Entry → List (List Entry) → Parameters
with_devices p root added subs = record { profile = p; root = root; added = added; subs = subs }

devices_same : (p : Profile) {a b c d : List Entry} {xs ys : List (List Entry)} → a ≡ b → c ≡ d → xs ≡ ys → with_devices p a c xs ≡ with_devices p b d ys
devices_same p e f g = rw (e, f, g) refl

-- what is restored from an image
pub restored_is : (p : Profile) (d d' : CommonValues) (o o' : RootValues) (ds ds' : List CommonValues) (image bytes : List ℕ) → bytes ≡ drop (profile_size p) image → common_entries d' ++ own_entries o' ≡ restored_device (common_entries d ++ own_entries o) bytes → added_entries o'.added.items ≡ restored_added (added_entries o.added.items) (drop (61 + 2 * length o.sensors.items) bytes) → map common_entries ds' ≡ restored_devices (map common_entries ds) (drop (61 + 2 * length o.sensors.items + 37 * length o.added.items) bytes) → kept p d' o' ds' ≡ restored_whole (kept p d o ds) image
restored_is p d d' o o' ds ds' image bytes e root added subs =
    let m : ℕ = profile_size p in
    let n : ℕ = 61 + 2 * length o.sensors.items in
    let k : ℕ = n + 37 * length o.added.items in
    let root_size : n ≡ device_size (common_entries d ++ own_entries o) = omega (arith, size_append (common_entries d) (own_entries o), common_size d, own_size o) in
    let here : m + n ≡ m + device_size (common_entries d ++ own_entries o) = ap (λ (x : ℕ). m + x) root_size in
    let behind : m + k ≡ m + device_size (common_entries d ++ own_entries o) + added_size (added_entries o.added.items) = omega (arith, root_size, length-map o.added.items kept_entry) in
    devices_same p (root ∙ ap (restored_device (common_entries d ++ own_entries o)) e)
    (added ∙ ap (restored_added (added_entries o.added.items)) (ap (drop n) e ∙ drop_drop m n image ∙ ap (λ (x : ℕ). drop x image) here))
    (subs ∙ ap (restored_devices (map common_entries ds)) (ap (drop k) e ∙ drop_drop m k image ∙ ap (λ (x : ℕ). drop x image) behind))
