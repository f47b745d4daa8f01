-- An area that is erased holds no image, and its check isn't too low.
use Rattle.std.proofs.Common.{◌≡◌, ℕ, zero, suc, ◌^◌, ◌<◌, ◌≤◌, List, [], ◌∷◌, length, get_or, take, drop, None, refl, sym, subst, arith, sum}
use Rattle.std.specs.Prelude.{OnOk, Result, Ok, Err}
use Rattle.std.proofs.lemmas.List.Sums.{sum_by-cons}
use Rattle.rdm_images.specs.declared.memory.Side.{Side}
use Rattle.rdm_images.specs.declared.memory.Side.TheVariants.{First, Second}
use Rattle.rdm_images.specs.Areas.{Rises, IsErased, IsSound, AreSound, loaded}
use Rattle.rdm_images.specs.Reading.{held, total}
use Rattle.rdm_images.proofs.Parts.{at_part, long_is}
use Rattle.rdm_images.proofs.Holding.{held_none, sound_when_risen}

at_least : (xs : List ℕ) (i : ℕ) → get_or xs i 0 ≤ sum xs
at_least [] i = omega arith
at_least (x ∷ xs) zero = omega (arith, sum_by-cons (λ n. n) x xs)
at_least (x ∷ xs) (suc i) = omega (arith, sum_by-cons (λ n. n) x xs, at_least xs i)

erased_at : (xs : List ℕ) (i : ℕ) → IsErased xs → i < length xs → get_or xs i 0 ≡ 255
erased_at xs i h lt = h i 0 lt

-- its check is the highest, and there is more
erased_total : (t : List ℕ) → IsErased t → 12 ≤ length t → 2 ^ 32 ≤ total t
erased_total t h long =
    omega (
      arith,
      long_is t 0,
      erased_at t 0 h (omega (arith, long)),
      erased_at t 1 h (omega (arith, long)),
      erased_at t 2 h (omega (arith, long)),
      erased_at t 3 h (omega (arith, long)),
      at_least (take 8 (drop 4 t)) 0,
      at_part 8 4 0 t (omega arith),
      erased_at t 4 h (omega (arith, long)),
    )

pub erased_holds_none : (key : ℕ) (t : List ℕ) → IsErased t → held key t ≡ None
erased_holds_none key t h = held_none key t (λ ok. absurd (omega (arith, ok.0.1, erased_total t h ok.0.0.0)))

pub erased_sound : (t : List ℕ) → IsErased t → IsSound t
erased_sound t h = λ long. omega (arith, erased_total t h long)

-- ---- both areas

pub nothing_loaded : (key : ℕ) (areas : Side → List ℕ) → ((s : Side) → IsErased (areas s)) → loaded key areas ≡ None
nothing_loaded key areas h = rw (erased_holds_none key (areas First) (h First), erased_holds_none key (areas Second) (h Second)) refl

pub both_erased : (areas areas' : Side → List ℕ) → IsErased (areas First) → areas' First ≡ areas First → IsErased (areas' Second) → (s : Side) → IsErased (areas' s)
both_erased areas areas' h same g First = subst IsErased (sym same) h
both_erased areas areas' h same g Second = g

-- an area is erased, be it only in part, and then the other one
pub first_torn : (areas areas' : Side → List ℕ) → Rises (areas First) (areas' First) → areas' Second ≡ areas Second → AreSound areas → AreSound areas'
first_torn areas areas' h same sound First = sound_when_risen _ _ h (sound First)
first_torn areas areas' h same sound Second = subst IsSound (sym same) (sound Second)

pub second_torn : (areas areas' : Side → List ℕ) → Rises (areas Second) (areas' Second) → areas' First ≡ areas First → AreSound areas → AreSound areas'
second_torn areas areas' h same sound First = subst IsSound (sym same) (sound First)
second_torn areas areas' h same sound Second = sound_when_risen _ _ h (sound Second)

pub on_ok : {T E P Q : Type 0} (r : Result T E) → (P → Q) → OnOk r P → OnOk r Q
on_ok (Ok x) f h = f h
on_ok (Err e) f h = h
