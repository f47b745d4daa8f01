-- The names of the things of a choice.
use Rattle.std.proofs.Common.{◌≡◌, ℕ, zero, suc, ◌+◌, ◌<◌, ◌&&◌, Bool, true, false, List, refl, sym, subst, add-one, arith, inl, inr}
use Rattle.std.proofs.lemmas.Bool.{cases_lt}
use Rattle.rdm_profile.specs.declared.profile.choices.ChoiceName.{ChoiceName}
use Rattle.rdm_profile.specs.Choices.{has_name, have_names}

both : (a b : Bool) → a ≡ true → b ≡ true → (a && b) ≡ true
both true b e f = f
both false b e f = absurd cc

left_false : (a b : Bool) → a ≡ false → (a && b) ≡ false
left_false true b e = absurd cc
left_false false b e = refl

right_false : (a b : Bool) → b ≡ false → (a && b) ≡ false
right_false true b e = e
right_false false b e = refl

-- one more that has a name
pub one_named : (cs : List ChoiceName) (pid i : ℕ) → have_names cs pid i ≡ true → has_name cs pid (i + 1) ≡ true → have_names cs pid (i + 1) ≡ true
one_named cs pid i so_far here =
    let now : has_name cs pid (suc i) ≡ true = subst (λ (n : ℕ). has_name cs pid n ≡ true) (add-one i) here in
    subst (λ (n : ℕ). have_names cs pid n ≡ true) (sym (add-one i)) (both (has_name cs pid (suc i)) (have_names cs pid i) now so_far)

missing : (cs : List ChoiceName) (pid n count : ℕ) → n < count → has_name cs pid (suc n) ≡ false → have_names cs pid count ≡ false
missing cs pid n zero lt none = absurd (omega (arith, lt))
missing cs pid n (suc m) lt none =
    elim (cases_lt n m) [
      | inl below ↦ right_false (has_name cs pid (suc m)) (have_names cs pid m) (missing cs pid n m below none)
      | inr ge ↦ (let same : n ≡ m = omega (arith, lt, ge) in left_false (has_name cs pid (suc m)) (have_names cs pid m) (subst (λ (k : ℕ). has_name cs pid (suc k) ≡ false) same none))
    ]

-- one that has none
pub one_missing : (cs : List ChoiceName) (pid i count : ℕ) → i < count → has_name cs pid (i + 1) ≡ false → false ≡ have_names cs pid count
one_missing cs pid i count lt none = sym (missing cs pid i count lt (subst (λ (n : ℕ). has_name cs pid n ≡ false) (add-one i) none))
