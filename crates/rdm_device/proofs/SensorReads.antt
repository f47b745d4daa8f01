-- What a sensor shows after it has measured.
use Rattle.std.proofs.Common.{◌≡◌, ℕ, ℤ, zero, suc, ◌+◌, ◌<◌, ◌≤◌, List, [], ◌∷◌, ◌++◌, length, get_or, set, take, drop, drop-cons, to_z, of_z, refl, sym, subst, ap, ◌∙◌, arith}
use Rattle.std.specs.Prelude.{slice_index}
use Rattle.std.specs.Int.{w16, cast_signed, cast_unsigned, int_min, int_max}
use Rattle.std.specs.Int.RustNames.{FitsSigned}
use Rattle.std.proofs.Math.Facts.{Fits-of_z}
use Rattle.std.proofs.lemmas.Bool.{eq-eqb, ne_eqb}
use Rattle.std.proofs.lemmas.Int.{to_z-of_z}
use Rattle.std.proofs.lemmas.List.{drop_all}
use Rattle.std.proofs.lemmas.Nat.{from_be_bytes-to_be_bytes_2}
use Rattle.rdm_added.proofs.Maps.{update_append}
use Rattle.rdm_added.specs.declared.state.CommonValues.{CommonValues}
use Rattle.rdm_added.specs.declared.state.Measured.{Measured}
use Rattle.rdm_added.specs.Map.{Entry, entry, update}
use Rattle.rdm_device.specs.Device.Measuring.{signed_in, measured, measured_by, at_sensor, placed_by}
use Rattle.rdm_added.specs.Views.State.{common_entries, sensor_entries, measured_slots}
use Rattle.rdm_profile.specs.Values.{signed_slots}

-- the signed number that is written is read back
signed_again : (z : ℤ) → FitsSigned w16 z → signed_in (signed_slots z) ≡ z
signed_again z fits = ap (cast_signed w16) (from_be_bytes-to_be_bytes_2 (cast_unsigned w16 z) (Fits-of_z fits).fits) ∙ to_z-of_z w16 z fits

abbrev shows : ℤ → ℤ → ℤ → ℤ → List ℕ
shows present lowest highest recorded = signed_slots present ++ signed_slots lowest ++ signed_slots highest ++ signed_slots recorded

-- what is measured, of the fields
pub measured_fields : (before : Measured) (v : ℤ) → FitsSigned w16 before.lowest → FitsSigned w16 before.highest → measured v (measured_slots before) ≡ shows v (int_min before.lowest v) (int_max before.highest v) before.recorded
unfolding measured
measured_fields before v low high =
    let lowest : signed_in (take 2 (drop 2 (measured_slots before))) ≡ before.lowest = signed_again before.lowest low in
    let highest : signed_in (take 2 (drop 4 (measured_slots before))) ≡ before.highest = signed_again before.highest high in
    ap (λ (z : ℤ). shows v (int_min z v) (int_max (signed_in (take 2 (drop 4 (measured_slots before)))) v) before.recorded) lowest ∙ ap (λ (z : ℤ). shows v (int_min before.lowest v) (int_max z v) before.recorded) highest

-- the sensors from number n on, where sensor k comes before them
others_stay : (k n : ℕ) (made : List ℕ → List ℕ) (ms : List Measured) → k < n → update (at_sensor made k) (sensor_entries n ms) ≡ sensor_entries n ms
others_stay k n made [] lt = refl
others_stay k n made (m ∷ ms) lt = rw (ne_eqb n k (λ (same : n ≡ k). omega arith), others_stay k (suc n) made ms (omega arith)) refl

one_from : (n i : ℕ) (made : List ℕ → List ℕ) (ms : List Measured) (new d : Measured) → i < length ms → measured_slots new ≡ made (measured_slots (get_or ms i d)) → sensor_entries n (set ms i new) ≡ update (at_sensor made (n + i)) (sensor_entries n ms)
one_from n i made [] new d lt e = absurd (omega arith)
one_from n zero made (m ∷ ms) new d lt e = rw (eq-eqb n (n + 0) (omega arith), others_stay (n + 0) (suc n) made ms (omega arith), e) refl
one_from n (suc i) made (m ∷ ms) new d lt e =
    let next : suc n + i ≡ n + suc i = omega arith in
    rw (ne_eqb n (n + suc i) (λ (same : n ≡ n + suc i). omega arith)) (ap (λ (es : List Entry). entry 0x0201 n (measured_slots m) ∷ es) (one_from (suc n) i made ms new d (omega arith) e ∙ ap (λ (k : ℕ). update (at_sensor made k) (sensor_entries (suc n) ms)) next))

-- the sensor at this place shows what is made of its bytes
pub one_measures : (i : ℕ) (made : List ℕ → List ℕ) (ms : List Measured) (new d : Measured) → i < length ms → measured_slots new ≡ made (measured_slots (get_or ms i d)) → sensor_entries 0 (set ms i new) ≡ update (at_sensor made i) (sensor_entries 0 ms)
one_measures i made ms new d lt e =
    let here : 0 + i ≡ i = omega arith in
    one_from 0 i made ms new d lt e ∙ ap (λ (k : ℕ). update (at_sensor made k) (sensor_entries 0 ms)) here

none_from : (n k : ℕ) (made : List ℕ → List ℕ) (ms : List Measured) → n + length ms ≤ k → sensor_entries n ms ≡ update (at_sensor made k) (sensor_entries n ms)
none_from n k made [] le = refl
none_from n k made (m ∷ ms) le = rw (ne_eqb n k (λ (same : n ≡ k). omega arith)) (ap (λ (es : List Entry). entry 0x0201 n (measured_slots m) ∷ es) (none_from (suc n) k made ms (omega arith)))

-- there is no sensor at this place
pub none_measures : (i : ℕ) (made : List ℕ → List ℕ) (ms : List Measured) → length ms ≤ i → sensor_entries 0 ms ≡ update (at_sensor made i) (sensor_entries 0 ms)
none_measures i made ms le = none_from 0 i made ms (omega arith)

others_keep : (number : ℕ) (made : List ℕ → List ℕ) (d : CommonValues) → update (at_sensor made number) (common_entries d) ≡ common_entries d
unfolding common_entries
others_keep number made d = refl

root_shows : (number : ℕ) (made : List ℕ → List ℕ) (d : CommonValues) (before after : List Entry) → after ≡ update (at_sensor made number) before → common_entries d ++ after ≡ update (at_sensor made number) (common_entries d ++ before)
root_shows number made d before after e =
    ap (λ (es : List Entry). common_entries d ++ es) e ∙ ap (λ (es : List Entry). es ++ update (at_sensor made number) before) (sym (others_keep number made d)) ∙ sym (update_append (at_sensor made number) (common_entries d) before)

-- the values of the root after a sensor has measured, and after its values were placed
pub root_measures : (number : ℕ) (v : ℤ) (d : CommonValues) (before after : List Entry) → after ≡ update (measured_by number v) before → common_entries d ++ after ≡ update (measured_by number v) (common_entries d ++ before)
root_measures number v d before after e = root_shows number (measured v) d before after e

pub root_placed : (slots : List ℕ) (d : CommonValues) (before after : List Entry) → after ≡ update (placed_by slots) before → common_entries d ++ after ≡ update (placed_by slots) (common_entries d ++ before)
root_placed slots d before after e = root_shows (slice_index slots 0) (λ bytes. drop 1 slots) d before after e

-- the four numbers of a sensor that has measured v
pub reading_is : (before : Measured) (v lowest highest recorded present' lowest' highest' recorded' : ℤ) → FitsSigned w16 lowest → FitsSigned w16 highest → before.lowest ≡ lowest → before.highest ≡ highest → before.recorded ≡ recorded → present' ≡ v → lowest' ≡ int_min lowest v → highest' ≡ int_max highest v → recorded' ≡ recorded → shows present' lowest' highest' recorded' ≡ measured v (measured_slots before)
reading_is before v lowest highest recorded present' lowest' highest' recorded' low high el eh er ep el' eh' er' =
    let fields = measured_fields before v (subst (FitsSigned w16) (sym el) low) (subst (FitsSigned w16) (sym eh) high) in
    rw (ep, el', eh', er', ← el, ← eh, ← er) (sym fields)

nine : (slots : List ℕ) → length slots ≡ 9 → get_or slots 1 0 ∷ get_or slots 2 0 ∷ get_or slots 3 0 ∷ get_or slots 4 0 ∷ get_or slots 5 0 ∷ get_or slots 6 0 ∷ get_or slots 7 0 ∷ get_or slots 8 0 ∷ [] ≡ drop 1 slots
nine slots len =
    rw (drop-cons slots 1 0 (omega (arith, len)), drop-cons slots 2 0 (omega (arith, len)), drop-cons slots 3 0 (omega (arith, len)), drop-cons slots 4 0 (omega (arith, len)), drop-cons slots 5 0 (omega (arith, len)), drop-cons slots 6 0 (omega (arith, len)), drop-cons slots 7 0 (omega (arith, len)), drop-cons slots 8 0 (omega (arith, len)), drop_all 9 slots (omega (arith, len))) refl

joined : {a b c d a' b' c' d' : List ℕ} → a ≡ a' → b ≡ b' → c ≡ c' → d ≡ d' → a ++ b ++ c ++ d ≡ a' ++ b' ++ c' ++ d'
joined ea eb ec ed = rw (ea, eb, ec, ed) refl

-- the four numbers that nine slots say after the first are written as those slots
pub nine_again : (slots : List ℕ) (p l h r : ℤ) → length slots ≡ 9 → FitsSigned w16 p → FitsSigned w16 l → FitsSigned w16 h → FitsSigned w16 r → signed_slots p ≡ get_or slots 1 0 ∷ get_or slots 2 0 ∷ [] → signed_slots l ≡ get_or slots 3 0 ∷ get_or slots 4 0 ∷ [] → signed_slots h ≡ get_or slots 5 0 ∷ get_or slots 6 0 ∷ [] → signed_slots r ≡ get_or slots 7 0 ∷ get_or slots 8 0 ∷ [] → shows (to_z w16 (of_z w16 p)) (to_z w16 (of_z w16 l)) (to_z w16 (of_z w16 h)) (to_z w16 (of_z w16 r)) ≡ drop 1 slots
nine_again slots p l h r len fp fl fh fr ep el eh er =
    joined (ap signed_slots (to_z-of_z w16 p fp) ∙ ep) (ap signed_slots (to_z-of_z w16 l fl) ∙ el) (ap signed_slots (to_z-of_z w16 h fh) ∙ eh) (ap signed_slots (to_z-of_z w16 r fr) ∙ er) ∙ nine slots len
