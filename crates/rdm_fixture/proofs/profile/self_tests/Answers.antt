use Rattle.std.proofs.Common.{◌≡◌, ◌+◌, List, inl, inr, sym, ap, ◌∙◌, subst, codes}
use Rattle.rdm_profile.specs.declared.profile.SelfTest.{SelfTest}
use Rattle.rdm_fixture_keys.specs.Faults.{in_entry}
use Rattle.rdm_fixture.specs.FirstWrong.{IsFirstAgain}
use Rattle.rdm_fixture_keys.specs.Entries.{IsSelfTest}
use Rattle.rdm_fixture_keys.proofs.Readings.{not_none}
use Rattle.rdm_fixture.proofs.OneFixture.{one_list, one_self_test}
use Rattle.rdm_fixture.proofs.profile.self_tests.Goals as goal

-- The list that was read is the only one.
pub returns-in-Some-clause-read : goal.returns-in-Some-clause-read
returns-in-Some-clause-read c = λ xs h.
    let same : xs.items ≡ c.as_slice.result.now =
    one_list _ _ IsSelfTest 0 8 _ _ one_self_test h.0 c.in_ok-tests.ensures.read ∙ sym c.as_slice.ensures.value in
    absurd (not_none _ (sym c.in-Some.is ∙ c.test_again.ensures.none.1 (rw same at h.1)))

pub returns-in-Some-clause-wrong : goal.returns-in-Some-clause-wrong
returns-in-Some-clause-wrong c =
    let Again : List SelfTest → Type 0 = λ xs. IsFirstAgain (λ a. a.number) xs c.in-Some.again in
    let read = c.in_ok-tests.ensures.read in
    inr (
      (c.in_ok-tests.tests.items, read),
      inl (
        c.in_ok-tests.tests.items,
        c.in-Some.again,
        read,
        subst Again c.as_slice.ensures.value c.in-Some.ensures.first,
        c.in_entry.ensures ∙ ap (in_entry (codes "self_test") (c.in-Some.again + 1)) c.at.ensures,
      ),
    )
