-- The values of an image one by one.
use Rattle.std.proofs.Common.{◌≡◌, ℕ, zero, suc, ◌+◌, ◌<◌, ◌≤◌, Bool, true, false, ◌==◌, ◌||◌, List, [], ◌∷◌, length, map, drop, Some, None, refl, sym, ap, ◌∙◌, arith, true≢false}
use Rattle.std.specs.Prelude.{slice_get, is_some, if◌then◌else◌}
use Rattle.std.specs.List.{list_any}
use Rattle.std.specs.Option.{option_map, option_map_or}
use Rattle.std.proofs.lemmas.Bool.{eq-eqb}
use Rattle.std.proofs.lemmas.Option.{same_Some, slice_get_past}
use Rattle.rdm_saved.specs.Carrying.{said_len}
use Rattle.rdm_updates.specs.declared.places.ValuePlace.{ValuePlace}
use Rattle.rdm_updates.specs.Left.{has, first_left}
use Rattle.rdm_updates.specs.SavedValues.{ValueSaved, value_at, places, saved_values}

get_map : {A B : Type 0} (f : A → B) (xs : List A) (n : ℕ) → slice_get (map f xs) n ≡ option_map f (slice_get xs n)
get_map f [] n = refl
get_map f (x ∷ xs) zero = refl
get_map f (x ∷ xs) (suc n) = get_map f xs n

-- the values, by whether there is an image
abbrev values_if : Bool → List ℕ → List ValueSaved
values_if b image = if b then map (value_at image) (places image) else []

pub none_short : (image : List ℕ) (n : ℕ) → (length image == said_len image) ≡ false → None ≡ slice_get (saved_values image) n
none_short image n short = ap (λ (b : Bool). slice_get (values_if b image) n) (sym short)

by_places : (b : Bool) (image : List ℕ) (n : ℕ) → length (places image) ≤ n → None ≡ slice_get (values_if b image) n
by_places false image n past = refl
by_places true image n past = sym (get_map (value_at image) (places image) n ∙ ap (option_map (value_at image)) (slice_get_past (places image) n past))

pub none_past : (image : List ℕ) (n : ℕ) → length (places image) ≤ n → None ≡ slice_get (saved_values image) n
none_past image n past = by_places (length image == said_len image) image n past

pub value_is : (image : List ℕ) (n : ℕ) (p : ValuePlace) (v : ValueSaved) → length image ≡ said_len image → slice_get (places image) n ≡ Some p → v ≡ value_at image p → Some v ≡ slice_get (saved_values image) n
value_is image n p v long at is =
    ap (λ (x : ValueSaved). Some x) is ∙ ap (option_map (value_at image)) (sym at) ∙ sym (get_map (value_at image) (places image) n)
    ∙ ap (λ (b : Bool). slice_get (values_if b image) n) (sym (eq-eqb (length image) (said_len image) long))

-- ---- whether an image has a value

pub any_here : {A : Type 0} (f : A → Bool) (xs : List A) (i : ℕ) → i < length xs → list_any f (drop i xs) ≡ (option_map_or f (slice_get xs i) false || list_any f (drop (i + 1) xs))
any_here f [] i lt = absurd (omega (arith, lt))
any_here f (x ∷ xs) zero lt = refl
any_here f (x ∷ xs) (suc i) lt =
    let next : suc i + 1 ≡ suc (i + 1) = omega arith in
    any_here f xs i (omega (arith, lt)) ∙ ap (λ (k : ℕ). option_map_or f (slice_get xs i) false || list_any f (drop k (x ∷ xs))) (sym next)

pub none_behind : {A : Type 0} (xs : List A) (i : ℕ) → length xs ≤ i → drop i xs ≡ []
none_behind [] zero past = refl
none_behind [] (suc i) past = refl
none_behind (x ∷ xs) zero past = absurd (omega (arith, past))
none_behind (x ∷ xs) (suc i) past = none_behind xs i (omega (arith, past))

-- ---- which values are left

drop_here : {A : Type 0} (xs : List A) (i : ℕ) (x : A) → slice_get xs i ≡ Some x → drop i xs ≡ x ∷ drop (i + 1) xs
drop_here [] i x at = absurd (true≢false (ap is_some (sym at)))
drop_here (y ∷ ys) zero x at = ap (λ z. z ∷ ys) (same_Some y x at)
drop_here (y ∷ ys) (suc i) x at =
    let next : suc i + 1 ≡ suc (i + 1) = omega arith in
    drop_here ys i x at ∙ ap (λ (k : ℕ). x ∷ drop k (y ∷ ys)) (sym next)

-- one that an image doesn't have is the first
pub left_here : (image : List ℕ) (vs : List ValueSaved) (i : ℕ) (v : ValueSaved) → Some v ≡ slice_get vs i → has image v ≡ false → first_left image i (drop i vs) ≡ Some (i, v)
left_here image vs i v at none =
    ap (first_left image i) (drop_here vs i v (sym at)) ∙ ap (λ (b : Bool). if b then first_left image (suc i) (drop (i + 1) vs) else Some (i, v)) none

-- one that it has is passed over
pub passed : (image : List ℕ) (vs : List ValueSaved) (i : ℕ) (v : ValueSaved) → Some v ≡ slice_get vs i → has image v ≡ true → first_left image i (drop i vs) ≡ first_left image (i + 1) (drop (i + 1) vs)
passed image vs i v at some =
    let next : suc i ≡ i + 1 = omega arith in
    ap (first_left image i) (drop_here vs i v (sym at)) ∙ ap (λ (b : Bool). if b then first_left image (suc i) (drop (i + 1) vs) else Some (i, v)) some
    ∙ ap (λ (k : ℕ). first_left image k (drop (i + 1) vs)) next

-- there is one before the end
pub not_past : {A : Type 0} {P : Type 0} (xs : List A) (i : ℕ) → None ≡ slice_get xs i → i < length xs → P
not_past [] i none lt = absurd (omega (arith, lt))
not_past (x ∷ xs) zero none lt = absurd (true≢false (sym (ap is_some none)))
not_past (x ∷ xs) (suc i) none lt = not_past xs i none (omega (arith, lt))
