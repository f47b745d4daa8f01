-- The entries of the sensors.
use Rattle.std.proofs.Common.{◌≡◌, ℕ, zero, suc, ◌+◌, List, [], ◌∷◌, ◌++◌, length, get_or, take, ◌<◌, Bool, true, false, Option, Some, None, refl, sym, ap, ◌∙◌, arith}
use Rattle.std.specs.Prelude.{slice_get}
use Rattle.std.specs.Option.{option_map_or}
use Rattle.std.proofs.lemmas.List.{take_more, length-take}
use Rattle.std.proofs.lemmas.Bool.{eq-eqb, ne_eqb}
use Rattle.rdm_added.specs.declared.state.Measured.{Measured}
use Rattle.rdm_added.proofs.Maps.{update_append}
use Rattle.rdm_profile.specs.declared.profile.SensorDef.{SensorDef}
use Rattle.rdm_added.specs.Map.{Entry, entry, lookup, update}
use Rattle.rdm_device.specs.Device.Measuring.{records, keeps_extremes, or_zero, shown_slots}
use Rattle.rdm_added.specs.Views.State.{sensor_entries, measured_slots}

-- a change that leaves the bytes of every sensor leaves their entries
pub sensors_stay : (f : Entry → List ℕ) (n : ℕ) (ms : List Measured) → ((i : ℕ) (bytes : List ℕ) → f (entry 0x0201 i bytes) ≡ bytes) → update f (sensor_entries n ms) ≡ sensor_entries n ms
sensors_stay f n [] stays = refl
sensors_stay f n (m ∷ ms) stays = rw (stays n (measured_slots m), sensors_stay f (suc n) ms stays) refl

read_from : (n i : ℕ) (ms : List Measured) → lookup (sensor_entries n ms) 0x0201 (n + i) ≡ option_map_or measured_slots (slice_get ms i) []
read_from n i [] = refl
read_from n zero (m ∷ ms) = rw (eq-eqb n (n + 0) (omega arith)) refl
read_from n (suc i) (m ∷ ms) =
    let e : n + suc i ≡ suc n + i = omega arith in
    rw (ne_eqb n (n + suc i) (λ (same : n ≡ n + suc i). omega arith)) (ap (lookup (sensor_entries (suc n) ms) 0x0201) e ∙ read_from (suc n) i ms)

read_at : (i : ℕ) (ms : List Measured) → lookup (sensor_entries 0 ms) 0x0201 i ≡ option_map_or measured_slots (slice_get ms i) []
read_at i ms =
    let e : i ≡ 0 + i = omega arith in
    ap (lookup (sensor_entries 0 ms) 0x0201) e ∙ read_from 0 i ms

-- the bytes of a sensor that there is, and of one that there isn't
pub sensor_is : (i : ℕ) (ms : List Measured) (m : Measured) → slice_get ms i ≡ Some m → lookup (sensor_entries 0 ms) 0x0201 i ≡ measured_slots m
sensor_is i ms m e = read_at i ms ∙ ap (λ (o : Option Measured). option_map_or measured_slots o []) e

pub sensor_is_not : (i : ℕ) (ms : List Measured) → slice_get ms i ≡ None → lookup (sensor_entries 0 ms) 0x0201 i ≡ []
sensor_is_not i ms e = read_at i ms ∙ ap (λ (o : Option Measured). option_map_or measured_slots o []) e

push_from : (n k : ℕ) (ms : List Measured) (m : Measured) → length ms ≡ k → sensor_entries n (ms ++ m ∷ []) ≡ sensor_entries n ms ++ entry 0x0201 (n + k) (measured_slots m) ∷ []
push_from n k [] m e = ap (λ (i : ℕ). entry 0x0201 i (measured_slots m) ∷ []) (omega (arith, e))
push_from n k (x ∷ ms) m e =
    let i : suc n + length ms ≡ n + k = omega (arith, e) in
    ap (λ (es : List Entry). entry 0x0201 n (measured_slots x) ∷ es) (push_from (suc n) (length ms) ms m refl ∙ ap (λ (j : ℕ). sensor_entries (suc n) ms ++ entry 0x0201 j (measured_slots m) ∷ []) i)

-- one more sensor, changed or not
pub push_changed : (f : Entry → List ℕ) (after before : List Measured) (x y : Measured) (k : ℕ) → sensor_entries 0 after ≡ update f (sensor_entries 0 before) → length after ≡ k → length before ≡ k → measured_slots y ≡ f (entry 0x0201 k (measured_slots x)) → sensor_entries 0 (after ++ y ∷ []) ≡ update f (sensor_entries 0 (before ++ x ∷ []))
push_changed f after before x y k so_far after_len before_len same =
    let zero_k : k ≡ 0 + k = omega arith in
    let left : sensor_entries 0 (after ++ y ∷ []) ≡ sensor_entries 0 after ++ entry 0x0201 k (measured_slots y) ∷ [] = push_from 0 k after y after_len ∙ ap (λ (j : ℕ). sensor_entries 0 after ++ entry 0x0201 j (measured_slots y) ∷ []) (sym zero_k) in
    let right : sensor_entries 0 (before ++ x ∷ []) ≡ sensor_entries 0 before ++ entry 0x0201 k (measured_slots x) ∷ [] = push_from 0 k before x before_len ∙ ap (λ (j : ℕ). sensor_entries 0 before ++ entry 0x0201 j (measured_slots x) ∷ []) (sym zero_k) in
    left ∙ ap (λ (es : List Entry). es ++ entry 0x0201 k (measured_slots y) ∷ []) so_far ∙ ap (λ (bytes : List ℕ). update f (sensor_entries 0 before) ++ entry 0x0201 k bytes ∷ []) same ∙ sym (update_append f (sensor_entries 0 before) (entry 0x0201 k (measured_slots x) ∷ [])) ∙ ap (update f) (sym right)

pub changed_more : (f : Entry → List ℕ) (after ms : List Measured) (i : ℕ) (x y : Measured) → sensor_entries 0 after ≡ update f (sensor_entries 0 (take i ms)) → length after ≡ i → i < length ms → x ≡ get_or ms i x → measured_slots y ≡ f (entry 0x0201 i (measured_slots x)) → sensor_entries 0 (after ++ y ∷ []) ≡ update f (sensor_entries 0 (take (i + 1) ms))
changed_more f after ms i x y so_far len lt here same =
    let more : take (i + 1) ms ≡ take i ms ++ x ∷ [] = take_more ms i x lt ∙ ap (λ (m : Measured). take i ms ++ m ∷ []) (sym here) in
    rw more (push_changed f after (take i ms) x y i so_far len (omega (arith, length-take i ms)) same)

-- where there are no slots, none are shown
none_or_zero : (supported : Bool) → or_zero supported [] ≡ []
none_or_zero true = refl
none_or_zero false = refl

pub none_shown : (sensor : Option SensorDef) → shown_slots sensor [] ≡ []
none_shown None = refl
none_shown (Some d) = rw (none_or_zero (keeps_extremes d), none_or_zero (records d)) refl
