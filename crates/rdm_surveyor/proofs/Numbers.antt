-- Sub-devices that are asked one behind the other.
use Rattle.std.proofs.Common.{◌≡◌, ◌⊎◌, inl, inr, ℕ, suc, ◌+◌, ◌<◌, ◌≤◌, Bool, if◌then◌else◌, List, [], Option, refl, sym, subst, arith, add-one}
use Rattle.rdm_survey.specs.declared.row.SubDevice.{SubDevice}
use Rattle.rdm_surveyor.specs.Asking.{Ends}
use Rattle.rdm_surveyor.specs.Surveys.{AreFound, Found, IsNextFound, TellSubs, TellsNumber, none_found}

-- Those from 1 to N told this, and so many are still to be found.
pub record IsSoFar {P : Type 0} (hears : P → List ℕ → Option (List ℕ) → P → Type 0) (e : Ends) (count number : ℕ) (before : P) (told : List SubDevice) (left : ℕ) (after : P) : Type 0 where
  pub found : Found
  pub asked : AreFound hears e count number before found after
  pub told_is : found.told ≡ told
  pub left_is : left + found.there ≡ count

module _ {P : Type 0} (hears : P → List ℕ → Option (List ℕ) → P → Type 0) (e : Ends) (count : ℕ) where
  pub none_asked : (p : P) (told : List SubDevice) → told ≡ [] → IsSoFar hears e count 0 p told count p
  none_asked p told none = record { found = none_found; asked = (refl, refl); told_is = sym none; left_is = omega arith }

  pub next_asked : (number : ℕ) (before mid after : P) (told more : List SubDevice) (left rest : ℕ) (is_there : Bool)
      → IsSoFar hears e count number before told left mid → 0 < left → TellsNumber hears e (number + 1) mid told more is_there after
      → rest + (if is_there then 1 else 0) ≡ left → IsSoFar hears e count (number + 1) before more rest after
  next_asked number before mid after told more left rest is_there so_far some tells rest_is =
      let found : Found = record { told = more; there = so_far.found.there + (if is_there then 1 else 0) } in
      let tells_next : TellsNumber hears e (suc number) mid so_far.found.told more is_there after =
      subst (λ n. TellsNumber hears e n mid so_far.found.told more is_there after) (add-one number)
      (subst (λ list. TellsNumber hears e (number + 1) mid list more is_there after) (sym so_far.told_is) tells) in
      let next : IsNextFound hears e count (suc number) so_far.found mid found after = record {
        is_there = is_there;
        tells = tells_next;
        fewer = omega (arith, some, so_far.left_is);
        there = refl;
      } in
      let asked : AreFound hears e count (suc number) before found after = (so_far.found, mid, so_far.asked, next) in
      record {
        found = found;
        asked = subst (λ n. AreFound hears e count n before found after) (sym (add-one number)) asked;
        told_is = refl;
        left_is = omega (arith, rest_is, so_far.left_is);
      }

  -- as many as the root says were there, or the numbers are over
  pub all_found : (number : ℕ) (before after : P) (told : List SubDevice) (left : ℕ) → IsSoFar hears e count number before told left after → number ≤ 512
      → (left ≡ 0) ⊎ (number ≡ 512) → TellSubs hears e count before told after
  all_found number before after told left so_far few over = record {
    number = number;
    found = so_far.found;
    asked = so_far.asked;
    over = elim over [
      | inl none ↦ inl (omega (arith, none, so_far.left_is))
      | inr all ↦ inr all
    ];
    within = few;
    subs_are = sym so_far.told_is;
  }
