-- The fields of a record, one after the other.
use Rattle.std.proofs.Common.{◌≡◌, ℕ, zero, suc, ◌+◌, List, [], ◌∷◌, ◌++◌, drop, Some, None, refl, sym, ap, arith, ◌∙◌, append_assoc}
use Rattle.std.proofs.lemmas.List.{append-nil}
use Rattle.csv.specs.Records.{field_at}

field_some : (fs : List (List ℕ)) (i : ℕ) (f : List ℕ) → field_at fs i ≡ Some f → drop i fs ≡ f ∷ drop (i + 1) fs
unfolding field_at
field_some [] i f h = absurd cc
field_some (g ∷ fs) zero f h = cc
field_some (g ∷ fs) (suc i) f h =
    let e : suc i + 1 ≡ suc (i + 1) = omega arith in
    rw e (field_some fs i f h)

field_none : (fs : List (List ℕ)) (i : ℕ) → field_at fs i ≡ None → drop i fs ≡ []
unfolding field_at
field_none [] zero h = refl
field_none [] (suc i) h = refl
field_none (g ∷ fs) zero h = absurd cc
field_none (g ∷ fs) (suc i) h = field_none fs i h

-- the fields so far and those from a place on are all, and so are they with the field there and those behind it
pub fields_go_on : (told new fs : List (List ℕ)) (i : ℕ) (f : List ℕ) → Some f ≡ field_at fs i → new ≡ told ++ f ∷ [] → told ++ drop i fs ≡ fs → new ++ drop (i + 1) fs ≡ fs
fields_go_on told new fs i f at is_new so_far =
    rw is_new (append_assoc told (f ∷ []) (drop (i + 1) fs) ∙ ap (λ (z : List (List ℕ)). told ++ z) (sym (field_some fs i f (sym at))) ∙ so_far)

pub fields_end : (told fs : List (List ℕ)) (i : ℕ) → None ≡ field_at fs i → told ++ drop i fs ≡ fs → told ≡ fs
fields_end told fs i at so_far = sym (append-nil told) ∙ ap (λ (z : List (List ℕ)). told ++ z) (sym (field_none fs i (sym at))) ∙ so_far
