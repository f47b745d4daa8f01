-- Modes that can't stand behind the personalities of the root.
use Rattle.std.proofs.Common.{◌≡◌, ℕ, ◌⊎◌, List, [], ◌∷◌, length, map, inl, inr, Result, Ok, Err, IfErr, subst, codes}
use Rattle.toml.specs.Data.{Members}
use Rattle.rdm_profile.specs.declared.profile.modes.Mode.{Mode}
use Rattle.rdm_profile.specs.declared.profile.Unit.{Unit as DeviceUnit}
use Rattle.rdm_profile.specs.Modes.{shape_of}
use Rattle.rdm_profile.specs.Profiles.{AreGoodModes}
use Rattle.rdm_fixture_keys.specs.declared.refusal.Agreement.TheVariants as agreements
use Rattle.rdm_fixture_keys.specs.declared.refusal.Refusal.{Refusal}
use Rattle.rdm_fixture_keys.specs.declared.refusal.Wanted.TheVariants as wanted
use Rattle.rdm_fixture_keys.specs.Faults.{fault, told}
use Rattle.rdm_fixture_keys.specs.Keys.{Reads}
use Rattle.rdm_fixture_keys.specs.Wrong.{FirstWrong}
use Rattle.rdm_fixture.specs.FirstWrong.{modes_agree}
use Rattle.rdm_fixture.specs.Format.{IsUnit, root_slots}
use Rattle.rdm_fixture.specs.OwnSlots.{AreModes, modes_part}
use Rattle.rdm_fixture.proofs.OneFixture.{one_modes}
use Rattle.rdm_fixture.proofs.OwnSlots.{shaped}

-- they were refused when they were read, or break a rule
abbrev pub IsRefused : ℕ → Result (List Mode) Refusal → Refusal → Type 0
IsRefused units r e =
    (r ≡ Err e) ⊎ ((ms : List Mode) × (r ≡ Ok ms) × (¬ AreGoodModes units (map shape_of ms)) × (told e ≡ fault (codes "mode") (wanted.Agreement agreements.OwnSlots)))

-- what was read is what the table says
pub as_read : (t : Members) (r : Result (List Mode) Refusal) (ms : List Mode) → Reads AreModes t r → r ≡ Ok ms → AreModes t ms
as_read t r ms read is = let Said : Result (List Mode) Refusal → Type 0 = λ x. Reads AreModes t x in subst Said is read

pub not_behind : (t : Members) (units : ℕ) (r : Result (List Mode) Refusal) (e : Refusal) (ms : List Mode)
    → Reads AreModes t r → IsRefused units r e → AreModes t ms → AreGoodModes units (map shape_of ms) → ⊥
not_behind t units r e ms read w said good = elim w [
  | inl is ↦ let Said : Result (List Mode) Refusal → Type 0 = λ x. Reads AreModes t x in (subst Said is read) ms said
  | inr x ↦
      let Good : List Mode → Type 0 = λ ys. AreGoodModes units (map shape_of ys) in
      x.2 (subst Good (one_modes t ms x.0 said (as_read t r x.0 read x.1)) good)
]

pub wrong_behind : (t : Members) (u : DeviceUnit) (r : Result (List Mode) Refusal) (e : Refusal)
    → Reads AreModes t r → IfErr r (λ y. modes_part.Wrong t (told y)) → IsUnit (root_slots t) t u → IsRefused (length u.personalities.items) r e
    → FirstWrong (modes_part ∷ modes_agree ∷ []) t (told e)
wrong_behind t u r e read wrong unit w = elim w [
  | inl is ↦ let Wrong : Result (List Mode) Refusal → Type 0 = λ x. IfErr x (λ y. modes_part.Wrong t (told y)) in inl (subst Wrong is wrong)
  | inr x ↦ let said = as_read t r x.0 read x.1 in inr ((map shape_of x.0, shaped t x.0 said), inl (u, x.0, (unit, said), x.2, x.3))
]
