-- All that is read from an image.
use Rattle.std.proofs.Common.{◌≡◌, ℕ, ◌+◌, Bool, List, [], ◌∷◌, ◌++◌, length, append_assoc, take, drop, map, refl, sym, ap, ◌∙◌}
use Rattle.std.specs.Prelude.{if◌then◌else◌}
use Rattle.std.proofs.lemmas.Bool.{eq-eqb}
use Rattle.std.proofs.lemmas.Grind.{flat_map-append}
use Rattle.std.proofs.lemmas.List.{map-append}
use Rattle.rdm_profile.specs.declared.profile.Profile.{Profile}
use Rattle.rdm_added.specs.declared.state.CommonValues.{CommonValues}
use Rattle.rdm_added.specs.declared.state.RootValues.{RootValues}
use Rattle.rdm_added.specs.Map.{Entry}
use Rattle.rdm_added.specs.Views.State.{common_entries, own_entries, sensor_entries, added_entries}
use Rattle.rdm_saved.specs.SavedText.{kept, lasting, device_text, values_text, sum_text, saved_text}
use Rattle.rdm_saved.specs.Carrying.{said_len, said_sensors, said_kept, said_subs, root_place, sensors_place, kept_place, subs_place}
use Rattle.rdm_saved.specs.Laws.{IsWhole, AreTexts, AreWhole}
use Rattle.rdm_updates.specs.Lasting.{HaveWords, all_lasting, lasting_in, lasting_of, lasting_subs, value_of}
use Rattle.rdm_updates.specs.Laws.{AreCounted}
use Rattle.rdm_updates.specs.SavedValues.{ValueSaved, value_at, common_places, own_places, sensor_places, kept_places, sub_places, places, saved_values}
use Rattle.rdm_updates.specs.declared.places.ValuePlace.{ValuePlace}
use Rattle.rdm_updates.proofs.Devices.{common_text_size}
use Rattle.rdm_updates.proofs.Image.{behind_is}
use Rattle.rdm_updates.proofs.Pieces.{drop_at}
use Rattle.rdm_updates.proofs.Reading.{from_here, common_read, own_read, sensors_read, kept_read, subs_read}
use Rattle.rdm_updates.proofs.Updating.{Saved, values, image, end, last, sensors_count, kept_count, subs_count, from_sensors, from_kept, from_subs, long_is}

first_whole : (xs ys : List Entry) → IsWhole (xs ++ ys) → IsWhole xs
first_whole [] ys whole = tt
first_whole (x ∷ xs) ys whole = (whole.0, first_whole xs ys whole.1)

common_whole : (s : Saved) → IsWhole (common_entries s.root)
common_whole s = first_whole (common_entries s.root) (own_entries s.own) s.whole

-- from where the values of every device stand, and those of the root alone
from_common : (s : Saved) → drop (root_place (image s)) (image s) ≡ device_text (common_entries s.root) ++ (device_text (own_entries s.own) ++ end s)
from_common s =
    behind_is s.maker (values s) ∙ ap (λ (xs : List ℕ). xs ++ end s) (flat_map-append lasting (common_entries s.root) (own_entries s.own))
    ∙ append_assoc (device_text (common_entries s.root)) (device_text (own_entries s.own)) (end s)

from_own : (s : Saved) → drop (root_place (image s) + 46) (image s) ≡ device_text (own_entries s.own) ++ end s
from_own s =
    from_here (image s) (root_place (image s)) (root_place (image s) + 46) 46 (device_text (common_entries s.root) ++ (device_text (own_entries s.own) ++ end s)) (from_common s) refl
    ∙ drop_at (device_text (common_entries s.root)) (device_text (own_entries s.own) ++ end s) 46 (common_text_size s.root (common_whole s))

own_split : (o : RootValues) → lasting_in 0 (own_entries o) ≡ lasting_in 0 (take 10 (own_entries o)) ++ lasting_in 0 (sensor_entries 0 o.sensors.items)
unfolding own_entries
own_split o = refl

five_same : {a a' b b' c c' d d' e e' : List ValueSaved} → a ≡ a' → b ≡ b' → c ≡ c' → d ≡ d' → e ≡ e' → a ++ (b ++ (c ++ (d ++ e))) ≡ a' ++ (b' ++ (c' ++ (d' ++ e')))
five_same p q r s t = rw (p, q, r, s, t) refl

five_map : (image : List ℕ) (a b c d e : List ValuePlace) → map (value_at image) (a ++ (b ++ (c ++ (d ++ e)))) ≡ map (value_at image) a ++ (map (value_at image) b ++ (map (value_at image) c ++ (map (value_at image) d ++ map (value_at image) e)))
five_map image a b c d e = simp map-append

regroup : (a b c d : List ValueSaved) → a ++ (b ++ (c ++ d)) ≡ (a ++ (b ++ c)) ++ d
regroup a b c d = simp append_assoc

all_read : (s : Saved) → HaveWords (added_entries s.own.added.items) → map (value_at (image s)) (places (image s)) ≡ all_lasting (values s)
all_read s words =
    let bytes : List ℕ = image s in
    let at : ValuePlace → ValueSaved = value_at bytes in
    let common : map at (common_places bytes 0 (root_place bytes)) ≡ lasting_in 0 (common_entries s.root) = common_read bytes (device_text (own_entries s.own) ++ end s) 0 (root_place bytes) s.root (from_common s) (common_whole s) in
    let own : map at (own_places (root_place bytes + 46)) ≡ lasting_in 0 (take 10 (own_entries s.own)) = own_read bytes (end s) (root_place bytes + 46) s.own (from_own s) in
    let sensors : map at (sensor_places (said_sensors bytes) 0 (sensors_place bytes)) ≡ lasting_in 0 (sensor_entries 0 s.own.sensors.items) =
    ap (λ (n : ℕ). map at (sensor_places n 0 (sensors_place bytes))) (sensors_count s) ∙ sensors_read bytes (end s) 0 (sensors_place bytes) s.own.sensors.items (from_sensors s) in
    let added : map at (kept_places bytes (said_kept bytes) (kept_place bytes)) ≡ map (λ (e : Entry). value_of 0 e e.bytes) (added_entries s.own.added.items) =
    ap (λ (n : ℕ). map at (kept_places bytes n (kept_place bytes))) (kept_count s) ∙ kept_read bytes (last s) (kept_place bytes) (added_entries s.own.added.items) (from_kept s) s.short words in
    let subs : map at (sub_places bytes (said_subs bytes) 1 (subs_place bytes)) ≡ lasting_subs 1 (map common_entries s.subs) =
    ap (λ (n : ℕ). map at (sub_places bytes n 1 (subs_place bytes))) (subs_count s) ∙ subs_read bytes (sum_text (values_text s.maker (values s))) 1 (subs_place bytes) s.subs (from_subs s) s.wholes in
    let rest : List ValueSaved = map (λ (e : Entry). value_of 0 e e.bytes) (added_entries s.own.added.items) ++ lasting_subs 1 (map common_entries s.subs) in
    let root : lasting_in 0 (common_entries s.root ++ own_entries s.own) ≡ lasting_in 0 (common_entries s.root) ++ (lasting_in 0 (take 10 (own_entries s.own)) ++ lasting_in 0 (sensor_entries 0 s.own.sensors.items)) =
    flat_map-append (lasting_of 0) (common_entries s.root) (own_entries s.own) ∙ ap (λ (vs : List ValueSaved). lasting_in 0 (common_entries s.root) ++ vs) (own_split s.own) in
    five_map bytes (common_places bytes 0 (root_place bytes)) (own_places (root_place bytes + 46)) (sensor_places (said_sensors bytes) 0 (sensors_place bytes)) (kept_places bytes (said_kept bytes) (kept_place bytes)) (sub_places bytes (said_subs bytes) 1 (subs_place bytes))
    ∙ five_same common own sensors added subs ∙ regroup (lasting_in 0 (common_entries s.root)) (lasting_in 0 (take 10 (own_entries s.own))) (lasting_in 0 (sensor_entries 0 s.own.sensors.items)) rest
    ∙ ap (λ (vs : List ValueSaved). vs ++ rest) (sym root)

pub saved_is_read : (maker : ℕ) (p : Profile) (root : CommonValues) (own : RootValues) (subs : List CommonValues) → IsWhole (kept p root own subs).root → AreTexts (kept p root own subs).added → AreWhole (kept p root own subs).subs → AreCounted p own subs → HaveWords (kept p root own subs).added → saved_values (saved_text maker (kept p root own subs)) ≡ all_lasting (kept p root own subs)
saved_is_read maker p root own subs whole short wholes counted words =
    let s : Saved = record { maker = maker; before = p; root = root; own = own; subs = subs; whole = whole; short = short; wholes = wholes; counted = counted } in
    ap (λ (b : Bool). if b then map (value_at (image s)) (places (image s)) else []) (eq-eqb (length (image s)) (said_len (image s)) (long_is s)) ∙ all_read s words
