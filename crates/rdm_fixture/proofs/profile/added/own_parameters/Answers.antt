use Rattle.std.proofs.Common.{◌≡◌, ◌+◌, List, inl, inr, sym, ap, ◌∙◌, subst, codes}
use Rattle.rdm_profile.specs.declared.profile.own.ParameterDef.{ParameterDef}
use Rattle.rdm_fixture_keys.specs.Faults.{in_entry}
use Rattle.rdm_fixture.specs.FirstWrong.{IsFirstBelow}
use Rattle.rdm_fixture.specs.Parameters.{IsParameter}
use Rattle.rdm_fixture_keys.proofs.Readings.{not_none}
use Rattle.rdm_fixture.proofs.OneFixture.{one_list, one_parameter}
use Rattle.rdm_fixture.proofs.profile.added.own_parameters.Goals as goal

-- The list that was read is the only one.
pub returns-in-Some-clause-read : goal.returns-in-Some-clause-read
returns-in-Some-clause-read c = λ xs h.
    let same : xs.items ≡ c.as_slice.result.now =
    one_list _ _ IsParameter 0 32 _ _ one_parameter h.0 c.in_ok-defs.ensures.read ∙ sym c.as_slice.ensures.value in
    absurd (not_none _ (sym c.in-Some.is ∙ c.first_below.ensures.none.1 (rw same at h.1)))

pub returns-in-Some-clause-wrong : goal.returns-in-Some-clause-wrong
returns-in-Some-clause-wrong c =
    let Below : List ParameterDef → Type 0 = λ xs. IsFirstBelow xs c.in-Some.below in
    let read = c.in_ok-defs.ensures.read in
    inr (
      (c.in_ok-defs.defs.items, read),
      inl (
        c.in_ok-defs.defs.items,
        c.in-Some.below,
        read,
        subst Below c.as_slice.ensures.value c.in-Some.ensures.first,
        c.in_entry.ensures ∙ ap (in_entry (codes "parameter") (c.in-Some.below + 1)) c.at.ensures,
      ),
    )
