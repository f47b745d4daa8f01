-- What is read from an image is what was saved.
use Rattle.std.proofs.Common.{◌≡◌, ℕ, suc, ◌+◌, ◌-◌, ◌≤◌, List, [], ◌∷◌, ◌++◌, length, length-append, append_assoc, take, drop, replicate, map, refl, sym, ap, ◌∙◌, arith}
use Rattle.std.specs.Prelude.{flat_map, slice_index, min}
use Rattle.std.proofs.Math.Seq.{take-append_seam}
use Rattle.std.proofs.lemmas.List.{get_or-drop, length-replicate, map-append}
use Rattle.rdm_profile.specs.Values.{word_slots, long_slots, front_word}
use Rattle.rdm_added.specs.declared.state.CommonValues.{CommonValues}
use Rattle.rdm_added.specs.declared.state.RootValues.{RootValues}
use Rattle.rdm_added.specs.declared.state.Measured.{Measured}
use Rattle.rdm_added.specs.Map.{Entry, entry}
use Rattle.rdm_added.specs.Views.State.{common_entries, own_entries, measured_slots, sensor_entries}
use Rattle.rdm_saved.specs.SavedText.{kept_text, device_text, added_text}
use Rattle.rdm_saved.specs.Carrying.{word_at}
use Rattle.rdm_saved.specs.Laws.{IsWhole, AreTexts, AreWhole}
use Rattle.rdm_saved.proofs.Lists.{drop_drop}
use Rattle.rdm_saved.proofs.Whole.{kept_size}
use Rattle.rdm_updates.specs.Lasting.{HaveWords, lasting_in, lasting_subs, value_of}
use Rattle.rdm_updates.specs.SavedValues.{ValueSaved, value_at, common_places, own_places, sensor_places, kept_places, sub_places}
use Rattle.rdm_updates.proofs.Devices.{common_text_size}
use Rattle.rdm_updates.proofs.Image.{word_said}
use Rattle.rdm_updates.proofs.Pieces.{drop_at}

-- bytes from a place on
pub from_here : (image : List ℕ) (base place j : ℕ) (xs : List ℕ) → drop base image ≡ xs → place ≡ base + j → drop place image ≡ drop j xs
from_here image base place j xs e at = ap (λ (n : ℕ). drop n image) at ∙ sym (drop_drop base j image) ∙ ap (drop j) e

piece : (image : List ℕ) (base place j k : ℕ) (xs : List ℕ) → drop base image ≡ xs → place ≡ base + j → take k (drop place image) ≡ take k (drop j xs)
piece image base place j k xs e at = ap (take k) (from_here image base place j xs e at)

byte_here : (image : List ℕ) (base place j : ℕ) (xs : List ℕ) → drop base image ≡ xs → place ≡ base + j → slice_index image place ≡ slice_index xs j
byte_here image base place j xs e at = ap (slice_index image) at ∙ sym (get_or-drop base image j 0) ∙ ap (λ (ys : List ℕ). slice_index ys j) e

-- a text behind its length
abbrev padded : List ℕ → List ℕ → List ℕ
padded text rest = (text ++ replicate (32 - length text) 0) ++ rest

padded_text : (text rest : List ℕ) → take (length text) (padded text rest) ≡ text
padded_text text rest =
    ap (take (length text)) (append_assoc text (replicate (32 - length text) 0) rest) ∙ take-append_seam text (replicate (32 - length text) 0 ++ rest)

padded_rest : (text rest : List ℕ) → length text ≤ 32 → drop 32 (padded text rest) ≡ rest
padded_rest text rest short =
    drop_at (text ++ replicate (32 - length text) 0) rest 32 (omega (arith, short, length-append text (replicate (32 - length text) 0), length-replicate {A = ℕ} (32 - length text) 0))

-- the text at a place
text_here : (image : List ℕ) (base place j : ℕ) (xs text rest : List ℕ) → drop base image ≡ xs → place ≡ base + j → drop j xs ≡ length text ∷ padded text rest → length text ≤ 32 → take (min (slice_index image place) 32) (drop (place + 1) image) ≡ text
text_here image base place j xs text rest e at is short =
    let here : drop place image ≡ length text ∷ padded text rest = from_here image base place j xs e at ∙ is in
    let none : place ≡ place + 0 = omega arith in
    let count : slice_index image place ≡ length text = byte_here image place place 0 (length text ∷ padded text rest) here none in
    let least : min (slice_index image place) 32 ≡ length text = ap (λ (n : ℕ). min n 32) count ∙ omega (arith, short) in
    ap (λ (n : ℕ). take n (drop (place + 1) image)) least ∙ piece image place (place + 1) 1 (length text) (length text ∷ padded text rest) here refl ∙ padded_text text rest

-- ---- a device

seven_same : (device : ℕ) {a a' b b' c c' d d' e e' f f' g g' : List ℕ} → a ≡ a' → b ≡ b' → c ≡ c' → d ≡ d' → e ≡ e' → f ≡ f' → g ≡ g' → value_of device (entry 0x0033 0 []) a ∷ value_of device (entry 0x0082 0 []) b ∷ value_of device (entry 0x00E0 0 []) c ∷ value_of device (entry 0x00F0 0 []) d ∷ value_of device (entry 0x0401 0 []) e ∷ value_of device (entry 0x0402 0 []) f ∷ value_of device (entry 0x0404 0 []) g ∷ [] ≡ value_of device (entry 0x0033 0 []) a' ∷ value_of device (entry 0x0082 0 []) b' ∷ value_of device (entry 0x00E0 0 []) c' ∷ value_of device (entry 0x00F0 0 []) d' ∷ value_of device (entry 0x0401 0 []) e' ∷ value_of device (entry 0x0402 0 []) f' ∷ value_of device (entry 0x0404 0 []) g' ∷ []
seven_same device p q r s t u v = rw (p, q, r, s, t, u, v) refl

-- the bytes behind the label
abbrev tail : CommonValues → List ℕ → List ℕ
tail d rest = (d.personality ∷ word_slots d.start ++ (long_slots d.lamp_hours ++ (long_slots d.lamp_strikes ++ d.lamp_on_mode ∷ []))) ++ rest

common_is : (d : CommonValues) (rest : List ℕ) → device_text (common_entries d) ++ rest ≡ d.report_threshold ∷ length d.label ∷ padded d.label (tail d rest)
unfolding common_entries
common_is d rest =
    ap (λ (xs : List ℕ). d.report_threshold ∷ length d.label ∷ xs) (append_assoc (d.label ++ replicate (32 - length d.label) 0) (tail d []) rest)

label_short : (d : CommonValues) → IsWhole (common_entries d) → length d.label ≤ 32
unfolding common_entries
label_short d whole = omega (arith, whole.1.0, length-append d.label (replicate (32 - length d.label) 0), length-replicate {A = ℕ} (32 - length d.label) 0)

pub common_read : (image rest : List ℕ) (device place : ℕ) (d : CommonValues) → drop place image ≡ device_text (common_entries d) ++ rest → IsWhole (common_entries d) → map (value_at image) (common_places image device place) ≡ lasting_in device (common_entries d)
unfolding common_entries
common_read image rest device place d e whole =
    let xs : List ℕ = d.report_threshold ∷ length d.label ∷ padded d.label (tail d rest) in
    let short : length d.label ≤ 32 = label_short d whole in
    let front : drop place image ≡ xs = e ∙ common_is d rest in
    let behind : drop (place + 34) image ≡ tail d rest = from_here image place (place + 34) 34 xs front refl ∙ padded_rest d.label (tail d rest) short in
    let none : place ≡ place + 0 = omega arith in
    let first : place + 34 ≡ place + 34 + 0 = omega arith in
    let second : place + 35 ≡ place + 34 + 1 = omega arith in
    let third : place + 37 ≡ place + 34 + 3 = omega arith in
    let fourth : place + 41 ≡ place + 34 + 7 = omega arith in
    let fifth : place + 45 ≡ place + 34 + 11 = omega arith in
    seven_same device (piece image place place 0 1 xs front none) (text_here image place (place + 1) 1 xs d.label (tail d rest) front refl refl short)
    (piece image (place + 34) (place + 34) 0 1 (tail d rest) behind first) (piece image (place + 34) (place + 35) 1 2 (tail d rest) behind second)
    (piece image (place + 34) (place + 37) 3 4 (tail d rest) behind third) (piece image (place + 34) (place + 41) 7 4 (tail d rest) behind fourth)
    (piece image (place + 34) (place + 45) 11 1 (tail d rest) behind fifth)

eight_same : {a a' b b' c c' d d' e e' f f' g g' h h' : List ℕ} → a ≡ a' → b ≡ b' → c ≡ c' → d ≡ d' → e ≡ e' → f ≡ f' → g ≡ g' → h ≡ h' → value_of 0 (entry 0x00B0 0 []) a ∷ value_of 0 (entry 0x0400 0 []) b ∷ value_of 0 (entry 0x0405 0 []) c ∷ value_of 0 (entry 0x0500 0 []) d ∷ value_of 0 (entry 0x0501 0 []) e ∷ value_of 0 (entry 0x0600 0 []) f ∷ value_of 0 (entry 0x0601 0 []) g ∷ value_of 0 (entry 0x0602 0 []) h ∷ [] ≡ value_of 0 (entry 0x00B0 0 []) a' ∷ value_of 0 (entry 0x0400 0 []) b' ∷ value_of 0 (entry 0x0405 0 []) c' ∷ value_of 0 (entry 0x0500 0 []) d' ∷ value_of 0 (entry 0x0501 0 []) e' ∷ value_of 0 (entry 0x0600 0 []) f' ∷ value_of 0 (entry 0x0601 0 []) g' ∷ value_of 0 (entry 0x0602 0 []) h' ∷ []
eight_same p q r s t u v w = rw (p, q, r, s, t, u, v, w) refl

pub own_read : (image rest : List ℕ) (place : ℕ) (o : RootValues) → drop place image ≡ device_text (own_entries o) ++ rest → map (value_at image) (own_places place) ≡ lasting_in 0 (take 10 (own_entries o))
unfolding own_entries
own_read image rest place o e =
    let xs : List ℕ = device_text (own_entries o) ++ rest in
    let none : place ≡ place + 0 = omega arith in
    eight_same (piece image place place 0 2 xs e none) (piece image place (place + 2) 2 4 xs e refl) (piece image place (place + 6) 6 4 xs e refl) (piece image place (place + 10) 10 1 xs e refl)
    (piece image place (place + 11) 11 1 xs e refl) (piece image place (place + 12) 12 1 xs e refl) (piece image place (place + 13) 13 1 xs e refl) (piece image place (place + 14) 14 1 xs e refl)

-- ---- sensors

sensors_on : (image : List ℕ) (number place : ℕ) (m : Measured) {a : List ℕ} {xs ys : List ValueSaved} → a ≡ drop 6 (measured_slots m) → xs ≡ ys → value_of 0 (entry 0x0201 number []) a ∷ xs ≡ value_of 0 (entry 0x0201 number []) (drop 6 (measured_slots m)) ∷ ys
sensors_on image number place m p q = rw (p, q) refl

pub sensors_read : (image rest : List ℕ) (number place : ℕ) (ms : List Measured) → drop place image ≡ device_text (sensor_entries number ms) ++ rest → map (value_at image) (sensor_places (length ms) number place) ≡ lasting_in 0 (sensor_entries number ms)
sensors_read image rest number place [] e = refl
sensors_read image rest number place (m ∷ ms) e =
    let xs : List ℕ = device_text (sensor_entries number (m ∷ ms)) ++ rest in
    let none : place ≡ place + 0 = omega arith in
    sensors_on image number place m (piece image place place 0 2 xs e none) (sensors_read image rest (suc number) (place + 2) ms (from_here image place (place + 2) 2 xs e refl))

-- ---- what the maker adds

kept_on : {p p' i i' : ℕ} {a a' : List ℕ} {xs ys : List ValueSaved} → p ≡ p' → i ≡ i' → a ≡ a' → xs ≡ ys → value_of 0 (entry p i []) a ∷ xs ≡ value_of 0 (entry p' i' []) a' ∷ ys
kept_on p q r s = rw (p, q, r, s) refl

pub kept_read : (image rest : List ℕ) (place : ℕ) (es : List Entry) → drop place image ≡ added_text es ++ rest → AreTexts es → HaveWords es → map (value_at image) (kept_places image (length es) place) ≡ map (λ (x : Entry). value_of 0 x x.bytes) es
kept_read image rest place [] e short words = refl
kept_read image rest place (x ∷ es) e short words =
    let more : List ℕ = added_text es ++ rest in
    let xs : List ℕ = kept_text x ++ more in
    let front : drop place image ≡ xs = e ∙ append_assoc (kept_text x) (added_text es) rest in
    let pid : word_at image place ≡ x.pid = ap front_word front ∙ word_said x.pid words.0.0 in
    let index : word_at image (place + 2) ≡ x.index = ap front_word (from_here image place (place + 2) 2 xs front refl) ∙ word_said x.index words.0.1 in
    let text : take (min (slice_index image (place + 4)) 32) (drop (place + 4 + 1) image) ≡ x.bytes = text_here image place (place + 4) 4 xs x.bytes more front refl refl short.0 in
    let next : drop (place + 37) image ≡ more = from_here image place (place + 37) 37 xs front refl ∙ drop_at (kept_text x) more 37 (kept_size x short.0) in
    kept_on pid index text (kept_read image rest (place + 37) es next short.1 words.1)

-- ---- sub-devices

both_same : {xs xs' ys ys' : List ValueSaved} → xs ≡ xs' → ys ≡ ys' → xs ++ ys ≡ xs' ++ ys'
both_same p q = rw (p, q) refl

pub subs_read : (image rest : List ℕ) (device place : ℕ) (ds : List CommonValues) → drop place image ≡ flat_map device_text (map common_entries ds) ++ rest → AreWhole (map common_entries ds) → map (value_at image) (sub_places image (length ds) device place) ≡ lasting_subs device (map common_entries ds)
subs_read image rest device place [] e whole = refl
subs_read image rest device place (d ∷ ds) e whole =
    let more : List ℕ = flat_map device_text (map common_entries ds) ++ rest in
    let text : List ℕ = device_text (common_entries d) in
    let front : drop place image ≡ text ++ more = e ∙ append_assoc text (flat_map device_text (map common_entries ds)) rest in
    let next : drop (place + 46) image ≡ more = from_here image place (place + 46) 46 (text ++ more) front refl ∙ drop_at text more 46 (common_text_size d whole.0) in
    map-append (value_at image) (common_places image device place) (sub_places image (length ds) (suc device) (place + 46))
    ∙ both_same (common_read image more device place d front whole.0) (subs_read image rest (suc device) (place + 46) ds next whole.1)
