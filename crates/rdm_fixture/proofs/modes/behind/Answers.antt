use Rattle.std.proofs.Common.{◌≡◌, List, map, inr, sym, ap, ◌∙◌, subst}
use Rattle.rdm_profile.specs.declared.profile.modes.ModeShape.{ModeShape}
use Rattle.rdm_profile.specs.Modes.{shape_of}
use Rattle.rdm_profile.specs.Profiles.{AreGoodModes}
use Rattle.rdm_fixture_keys.proofs.Readings.{not_none}
use Rattle.rdm_fixture.proofs.modes.behind.Goals as goal

pub returns-in-None-clause-good : goal.returns-in-None-clause-good
returns-in-None-clause-good c =
    let Good : List ModeShape → Type 0 = λ ss. AreGoodModes c.args.units ss in
    let shapes : c.as_slice-in-Ok.result.now ≡ map shape_of c.in-Ok.modes =
    c.as_slice-in-Ok.ensures.value ∙ c.shapes_of.ensures ∙ ap (map shape_of) c.as_slice.ensures.value in
    (c.in-Ok.is, subst Good shapes (c.mode_fault.ensures.good.0 c.in-None.is))

pub returns-in-Some-clause-refused : goal.returns-in-Some-clause-refused
returns-in-Some-clause-refused c =
    let Good : List ModeShape → Type 0 = λ ss. AreGoodModes c.args.units ss in
    let shapes : c.as_slice-in-Ok.result.now ≡ map shape_of c.in-Ok.modes =
    c.as_slice-in-Ok.ensures.value ∙ c.shapes_of.ensures ∙ ap (map shape_of) c.as_slice.ensures.value in
    inr (
      c.in-Ok.modes,
      c.in-Ok.is,
      (λ good. not_none _ (sym c.in-Some.is ∙ c.mode_fault.ensures.good.1 (subst Good (sym shapes) good))),
      c.at.ensures,
    )
