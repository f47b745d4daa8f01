-- The values of an image by their numbers.
use Rattle.std.proofs.Common.{◌≡◌, ℕ, zero, suc, ◌+◌, ◌-◌, ◌*◌, ◌/◌, ◌%◌, ◌<◌, ◌≤◌, List, [], ◌∷◌, ◌++◌, length, length-append, Option, Some, refl, sym, ap, ◌∙◌, arith, inl, inr}
use Rattle.std.specs.Prelude.{slice_get}
use Rattle.std.proofs.lemmas.Bool.{cases_lt}
use Rattle.rdm_saved.specs.Carrying.{word_at, said_subs, said_sensors, said_kept, root_place, sensors_place, kept_place, subs_place}
use Rattle.rdm_updates.specs.declared.places.ValuePlace.{ValuePlace}
use Rattle.rdm_updates.specs.SavedValues.{value_place, text_place, common_places, own_places, sensor_places, kept_places, sub_places, behind_places, places}

-- an element of the first list of two, and of the second
get_front : {A : Type 0} (xs ys : List A) (n : ℕ) → n < length xs → slice_get (xs ++ ys) n ≡ slice_get xs n
get_front [] ys n lt = absurd (omega (arith, lt))
get_front (x ∷ xs) ys zero lt = refl
get_front (x ∷ xs) ys (suc n) lt = get_front xs ys n (omega (arith, lt))

get_behind : {A : Type 0} (xs ys : List A) (n : ℕ) → slice_get (xs ++ ys) (length xs + n) ≡ slice_get ys n
get_behind [] ys n = ap (slice_get ys) (omega arith)
get_behind (x ∷ xs) ys n =
    let e : length (x ∷ xs) + n ≡ suc (length xs + n) = omega arith in
    ap (slice_get ((x ∷ xs) ++ ys)) e ∙ get_behind xs ys n

get_after : {A : Type 0} (xs ys : List A) (k n : ℕ) → length xs ≡ k → k ≤ n → slice_get (xs ++ ys) n ≡ slice_get ys (n - k)
get_after xs ys k n len le =
    let e : n ≡ length xs + (n - k) = omega (arith, len, le) in
    ap (slice_get (xs ++ ys)) e ∙ get_behind xs ys (n - k)

-- ---- how many there are

sensors_length : (n number place : ℕ) → length (sensor_places n number place) ≡ n
sensors_length zero number place = refl
sensors_length (suc n) number place = omega (arith, sensors_length n (suc number) (place + 2))

kept_length : (image : List ℕ) (n place : ℕ) → length (kept_places image n place) ≡ n
kept_length image zero place = refl
kept_length image (suc n) place = omega (arith, kept_length image n (place + 37))

subs_length : (image : List ℕ) (n device place : ℕ) → length (sub_places image n device place) ≡ 7 * n
subs_length image zero device place = refl
subs_length image (suc n) device place =
    omega (arith, subs_length image n (suc device) (place + 46), length-append (common_places image device place) (sub_places image n (suc device) (place + 46)))

behind_count : (image : List ℕ) → length (behind_places image) ≡ said_sensors image + said_kept image + 7 * said_subs image
behind_count image =
    let kept : List ValuePlace = kept_places image (said_kept image) (kept_place image) in
    let subs : List ValuePlace = sub_places image (said_subs image) 1 (subs_place image) in
    omega (arith, length-append (sensor_places (said_sensors image) 0 (sensors_place image)) (kept ++ subs), length-append kept subs, sensors_length (said_sensors image) 0 (sensors_place image), kept_length image (said_kept image) (kept_place image), subs_length image (said_subs image) 1 (subs_place image))

pub count_is : (image : List ℕ) → length (places image) ≡ 15 + said_sensors image + said_kept image + 7 * said_subs image
count_is image = omega (arith, behind_count image)

pub sum_same : {a b c a' b' c' : ℕ} → a ≡ a' → b ≡ b' → c ≡ c' → 15 + a + b + 7 * c ≡ 15 + a' + b' + 7 * c'
sum_same p q r = rw (p, q, r) refl

-- ---- each by its number

sensor_same : {i i' p p' : ℕ} → i ≡ i' → p ≡ p' → ◌≡◌ {A = Option ValuePlace} (Some (value_place 0 0x0201 i p 2)) (Some (value_place 0 0x0201 i' p' 2))
sensor_same e f = rw (e, f) refl

pub sensor_get : (n i number place : ℕ) → i < n → slice_get (sensor_places n number place) i ≡ Some (value_place 0 0x0201 (number + i) (place + 2 * i) 2)
sensor_get zero i number place lt = absurd (omega (arith, lt))
sensor_get (suc n) zero number place lt = sensor_same (omega arith) (omega arith)
sensor_get (suc n) (suc i) number place lt =
    let at : place + 2 + 2 * i ≡ place + 2 * suc i = omega arith in
    let next : suc number + i ≡ number + suc i = omega arith in
    sensor_get n i (suc number) (place + 2) (omega (arith, lt)) ∙ sensor_same next at

-- a value that is kept of a parameter that the maker added
abbrev kept_at : List ℕ → ℕ → Option ValuePlace
kept_at image place = Some (text_place image 0 (word_at image place) (word_at image (place + 2)) (place + 4))

pub kept_get : (image : List ℕ) (n i place : ℕ) → i < n → slice_get (kept_places image n place) i ≡ kept_at image (place + 37 * i)
kept_get image zero i place lt = absurd (omega (arith, lt))
kept_get image (suc n) zero place lt = ap (kept_at image) (omega arith)
kept_get image (suc n) (suc i) place lt =
    let at : place + 37 + 37 * i ≡ place + 37 * suc i = omega arith in
    kept_get image n i (place + 37) (omega (arith, lt)) ∙ ap (kept_at image) at

pub get_same : (image : List ℕ) {d d' p p' i i' : ℕ} → d ≡ d' → p ≡ p' → i ≡ i' → slice_get (common_places image d p) i ≡ slice_get (common_places image d' p') i'
get_same image {d' = d'} {p = p} {p' = p'} {i = i} e f g =
    ap (λ (d : ℕ). slice_get (common_places image d p) i) e ∙ ap (λ (p : ℕ). slice_get (common_places image d' p) i) f ∙ ap (slice_get (common_places image d' p')) g

pub sub_get : (image : List ℕ) (n i device place : ℕ) → i < 7 * n → slice_get (sub_places image n device place) i ≡ slice_get (common_places image (device + i / 7) (place + 46 * (i / 7))) (i % 7)
sub_get image zero i device place lt = absurd (omega (arith, lt))
sub_get image (suc n) i device place lt =
    let first : List ValuePlace = common_places image device place in
    let rest : List ValuePlace = sub_places image n (suc device) (place + 46) in
    elim (cases_lt i 7) [
      | inl here ↦
          let quotient : i / 7 ≡ 0 = omega (arith, here) in
          let d : device ≡ device + i / 7 = omega (arith, quotient) in
          let p : place ≡ place + 46 * (i / 7) = omega (arith, quotient) in
          let r : i ≡ i % 7 = omega (arith, here) in
          get_front first rest i here ∙ get_same image d p r
      | inr behind ↦
          let j : ℕ = i - 7 in
          let quotient : i / 7 ≡ suc (j / 7) = omega (arith, behind) in
          let d : suc device + j / 7 ≡ device + i / 7 = omega (arith, quotient) in
          let p : place + 46 + 46 * (j / 7) ≡ place + 46 * (i / 7) = omega (arith, quotient) in
          let r : j % 7 ≡ i % 7 = omega (arith, behind) in
          get_after first rest 7 i refl behind ∙ sub_get image n j (suc device) (place + 46) (omega (arith, lt, behind)) ∙ get_same image d p r
    ]

-- ---- each part within the whole

pub in_own : (image : List ℕ) (n root : ℕ) (x : ValuePlace) → root ≡ root_place image → 7 ≤ n → n - 7 < 8 → slice_get (own_places (root + 46)) (n - 7) ≡ Some x → slice_get (places image) n ≡ Some x
in_own image n root x is le lt e =
    get_after (common_places image 0 (root_place image)) (own_places (root_place image + 46) ++ behind_places image) 7 n refl le
    ∙ get_front (own_places (root_place image + 46)) (behind_places image) (n - 7) lt ∙ ap (λ (r : ℕ). slice_get (own_places (r + 46)) (n - 7)) (sym is) ∙ e

pub in_kept : (image : List ℕ) (n s k : ℕ) (x : ValuePlace) → s ≡ said_sensors image → k ≡ said_kept image → s ≤ n → n - s < k → slice_get (kept_places image (said_kept image) (kept_place image)) (n - s) ≡ Some x → slice_get (behind_places image) n ≡ Some x
in_kept image n s k x sensors many le lt e =
    let kept : List ValuePlace = kept_places image (said_kept image) (kept_place image) in
    let subs : List ValuePlace = sub_places image (said_subs image) 1 (subs_place image) in
    let within : n - s < length kept = omega (arith, lt, many, kept_length image (said_kept image) (kept_place image)) in
    get_after (sensor_places (said_sensors image) 0 (sensors_place image)) (kept ++ subs) s n (sensors_length (said_sensors image) 0 (sensors_place image) ∙ sym sensors) le
    ∙ get_front kept subs (n - s) within ∙ e

pub in_subs : (image : List ℕ) (n s k : ℕ) (x : ValuePlace) → s ≡ said_sensors image → k ≡ said_kept image → s ≤ n → k ≤ n - s → slice_get (sub_places image (said_subs image) 1 (subs_place image)) (n - s - k) ≡ Some x → slice_get (behind_places image) n ≡ Some x
in_subs image n s k x sensors many le further e =
    let kept : List ValuePlace = kept_places image (said_kept image) (kept_place image) in
    let subs : List ValuePlace = sub_places image (said_subs image) 1 (subs_place image) in
    get_after (sensor_places (said_sensors image) 0 (sensors_place image)) (kept ++ subs) s n (sensors_length (said_sensors image) 0 (sensors_place image) ∙ sym sensors) le
    ∙ get_after kept subs k (n - s) (kept_length image (said_kept image) (kept_place image) ∙ sym many) further ∙ e

-- ---- as the parts are made

text_same : (image : List ℕ) (place : ℕ) {a a' b b' : ℕ} → a ≡ a' → b ≡ b' → ◌≡◌ {A = Option ValuePlace} (Some (text_place image 0 a b place)) (Some (text_place image 0 a' b' place))
text_same image place {a' = a'} {b = b} e f =
    ap (λ (a : ℕ). Some (text_place image 0 a b place)) e ∙ ap (λ (b : ℕ). Some (text_place image 0 a' b place)) f

pub kept_made : (image : List ℕ) (n at pid index : ℕ) (x : ValuePlace) → n < said_kept image → at ≡ kept_place image → pid ≡ word_at image (at + 37 * n) → index ≡ word_at image (at + 37 * n + 2) → x ≡ text_place image 0 pid index (at + 37 * n + 4) → slice_get (kept_places image (said_kept image) (kept_place image)) n ≡ Some x
kept_made image n at pid index x lt is first second made =
    let place : ℕ = at + 37 * n in
    kept_get image (said_kept image) n (kept_place image) lt ∙ ap (λ (k : ℕ). kept_at image (k + 37 * n)) (sym is)
    ∙ text_same image (place + 4) (sym first) (sym second) ∙ ap (λ (y : ValuePlace). Some y) (sym made)

pub sub_made : (image : List ℕ) (n at : ℕ) (x : ValuePlace) → n < 7 * said_subs image → at ≡ subs_place image → slice_get (common_places image (n / 7 + 1) (at + 46 * (n / 7))) (n % 7) ≡ Some x → slice_get (sub_places image (said_subs image) 1 (subs_place image)) n ≡ Some x
sub_made image n at x lt is e =
    let next : 1 + n / 7 ≡ n / 7 + 1 = omega arith in
    sub_get image (said_subs image) n 1 (subs_place image) lt ∙ get_same image next (ap (λ (k : ℕ). k + 46 * (n / 7)) (sym is)) refl ∙ e

pub sensor_made : (image : List ℕ) (n at : ℕ) → n < said_sensors image → at ≡ sensors_place image → slice_get (sensor_places (said_sensors image) 0 (sensors_place image)) n ≡ Some (value_place 0 0x0201 n (at + 2 * n) 2)
sensor_made image n at lt is =
    let first : 0 + n ≡ n = omega arith in
    sensor_get (said_sensors image) n 0 (sensors_place image) lt ∙ sensor_same first (ap (λ (k : ℕ). k + 2 * n) (sym is))
