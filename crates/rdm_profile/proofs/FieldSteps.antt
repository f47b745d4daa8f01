-- The numbers that the slots of a parameter say.
use Rattle.std.proofs.Common.{◌≡◌, ◌≢◌, ◌==◌, ℕ, zero, suc, ◌+◌, ◌<◌, ◌≤◌, ◌&&◌, Bool, true, false, List, [], ◌∷◌, length, get_or, drop, refl, sym, ap, ◌∙◌, arith}
use Rattle.std.proofs.lemmas.Bool.{eq-eqb, ne_eqb}
use Rattle.std.proofs.Math.Seq.{drop-nil}
use Rattle.std.proofs.lemmas.List.{at_drop_more, at_drop_all}
use Rattle.rdm_profile.specs.declared.profile.fields.Field.{Field}
use Rattle.rdm_profile.specs.Fields.{width_of, begins_with, say, slots_of, have_sizes}

-- one more field that takes its slots
pub one_counted : (fs : List Field) (i total so_far : ℕ) (f : Field) → i < length fs → so_far + slots_of (drop i fs) ≡ total → (so_far + width_of (get_or fs i f).width) + slots_of (drop (i + 1) fs) ≡ total
one_counted fs i total so_far f lt e =
    let more : slots_of (drop i fs) ≡ width_of (get_or fs i f).width + slots_of (drop (i + 1) fs) = at_drop_more slots_of fs i f lt in
    omega (arith, e, more)

no : (b c : Bool) → b ≡ false → (b && c) ≡ false
no true c e = absurd cc
no false c e = refl

yes_then : (b c : Bool) → b ≡ true → (b && c) ≡ c
yes_then true c e = refl
yes_then false c e = absurd cc

drop_again : {A : Type 0} (xs : List A) (m n : ℕ) → drop n (drop m xs) ≡ drop (m + n) xs
drop_again xs zero n = let e : n ≡ 0 + n = omega arith in ap (λ (k : ℕ). drop k xs) e
drop_again [] (suc m) n = drop-nil n ∙ sym (drop-nil (suc m + n))
drop_again (x ∷ xs) (suc m) n = let e : suc (m + n) ≡ suc m + n = omega arith in drop_again xs m n ∙ ap (λ (k : ℕ). drop k (x ∷ xs)) e

unfold_say : (fs : List Field) (bytes : List ℕ) (i : ℕ) (f : Field) → i < length fs → say (drop i fs) bytes ≡ (begins_with (get_or fs i f) bytes && say (drop (i + 1) fs) (drop (width_of (get_or fs i f).width) bytes))
unfold_say fs bytes i f lt = at_drop_more (λ (gs : List Field). say gs bytes) fs i f lt

-- one more field that is said
pub one_said : (fs : List Field) (bytes : List ℕ) (i at : ℕ) (f : Field) (all : Bool) → i < length fs → begins_with (get_or fs i f) (drop at bytes) ≡ true → say (drop i fs) (drop at bytes) ≡ all → say (drop (i + 1) fs) (drop (at + width_of (get_or fs i f).width) bytes) ≡ all
one_said fs bytes i at f all lt here e =
    ap (say (drop (i + 1) fs)) (sym (drop_again bytes at (width_of (get_or fs i f).width))) ∙ sym (yes_then (begins_with (get_or fs i f) (drop at bytes)) (say (drop (i + 1) fs) (drop (width_of (get_or fs i f).width) (drop at bytes))) here) ∙ sym (unfold_say fs (drop at bytes) i f lt) ∙ e

-- one that isn't
pub one_not_said : (fs : List Field) (bytes : List ℕ) (i at : ℕ) (f : Field) (all : Bool) → i < length fs → begins_with (get_or fs i f) (drop at bytes) ≡ false → say (drop i fs) (drop at bytes) ≡ all → false ≡ all
one_not_said fs bytes i at f all lt here e =
    sym (no (begins_with (get_or fs i f) (drop at bytes)) (say (drop (i + 1) fs) (drop (width_of (get_or fs i f).width) (drop at bytes))) here) ∙ sym (unfold_say fs (drop at bytes) i f lt) ∙ e

-- behind the last one
pub all_said : (fs : List Field) (bytes : List ℕ) (i at : ℕ) (all : Bool) → length fs ≤ i → say (drop i fs) (drop at bytes) ≡ all → true ≡ all
all_said fs bytes i at all le e = sym (at_drop_all (λ (gs : List Field). say gs (drop at bytes)) fs i le) ∙ e

-- ---- the sizes of fields

either_way : (b c : Bool) → false ≡ c → false ≡ (b && c)
either_way true c e = e
either_way false c e = refl

unfold_sizes : (fs : List Field) (ns : List ℕ) (i : ℕ) (f : Field) → i < length fs → i < length ns → have_sizes (drop i fs) (drop i ns) ≡ ((width_of (get_or fs i f).width == get_or ns i 0) && have_sizes (drop (i + 1) fs) (drop (i + 1) ns))
unfold_sizes fs ns i f lt within =
    at_drop_more (λ (gs : List Field). have_sizes gs (drop i ns)) fs i f lt ∙ at_drop_more (have_sizes (get_or fs i f ∷ drop (i + 1) fs)) ns i 0 within

-- one more of its size
pub one_size : (fs : List Field) (ns : List ℕ) (i n : ℕ) (f : Field) (all : Bool) → i < length fs → length fs ≡ length ns → n ≡ get_or ns i 0 → width_of (get_or fs i f).width ≡ n → have_sizes (drop i fs) (drop i ns) ≡ all → have_sizes (drop (i + 1) fs) (drop (i + 1) ns) ≡ all
one_size fs ns i n f all lt same is size e =
    sym (yes_then (width_of (get_or fs i f).width == get_or ns i 0) (have_sizes (drop (i + 1) fs) (drop (i + 1) ns)) (eq-eqb _ _ (size ∙ is))) ∙ sym (unfold_sizes fs ns i f lt (omega (arith, lt, same))) ∙ e

-- one of another size
pub other_size : (fs : List Field) (ns : List ℕ) (i n : ℕ) (f : Field) (all : Bool) → i < length fs → length fs ≡ length ns → n ≡ get_or ns i 0 → width_of (get_or fs i f).width ≢ n → have_sizes (drop i fs) (drop i ns) ≡ all → false ≡ all
other_size fs ns i n f all lt same is size e =
    sym (no (width_of (get_or fs i f).width == get_or ns i 0) (have_sizes (drop (i + 1) fs) (drop (i + 1) ns)) (ne_eqb _ _ (λ h. size (h ∙ sym is)))) ∙ sym (unfold_sizes fs ns i f lt (omega (arith, lt, same))) ∙ e

-- behind the last one
pub all_sizes : (fs : List Field) (ns : List ℕ) (i : ℕ) (all : Bool) → length fs ≤ i → length fs ≡ length ns → have_sizes (drop i fs) (drop i ns) ≡ all → true ≡ all
all_sizes fs ns i all le same e =
    sym (at_drop_all (λ (gs : List Field). have_sizes gs (drop i ns)) fs i le ∙ at_drop_all (have_sizes []) ns i (omega (arith, le, same))) ∙ e

-- more fields or more sizes
pub more_sizes : (fs : List Field) (ns : List ℕ) → length fs ≢ length ns → false ≡ have_sizes fs ns
more_sizes [] [] h = absurd (h refl)
more_sizes [] (n ∷ ns) h = refl
more_sizes (f ∷ fs) [] h = refl
more_sizes (f ∷ fs) (n ∷ ns) h =
    either_way (width_of f.width == n) (have_sizes fs ns) (more_sizes fs ns (λ e. h (omega (arith, e))))
