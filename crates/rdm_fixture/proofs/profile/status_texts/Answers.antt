use Rattle.std.proofs.Common.{◌≡◌, ◌+◌, List, inl, inr, sym, ap, ◌∙◌, subst, codes}
use Rattle.rdm_profile.specs.declared.profile.StatusText.{StatusText}
use Rattle.rdm_fixture_keys.specs.Faults.{in_entry}
use Rattle.rdm_fixture.specs.FirstWrong.{IsFirstAgain}
use Rattle.rdm_fixture_keys.specs.Entries.{IsStatus}
use Rattle.rdm_fixture_keys.proofs.Readings.{not_none}
use Rattle.rdm_fixture.proofs.OneFixture.{one_list, one_status}
use Rattle.rdm_fixture.proofs.profile.status_texts.Goals as goal

-- The list that was read is the only one.
pub returns-in-Some-clause-read : goal.returns-in-Some-clause-read
returns-in-Some-clause-read c = λ xs h.
    let same : xs.items ≡ c.as_slice.result.now =
    one_list _ _ IsStatus 0 8 _ _ one_status h.0 c.in_ok-texts.ensures.read ∙ sym c.as_slice.ensures.value in
    absurd (not_none _ (sym c.in-Some.is ∙ c.status_again.ensures.none.1 (rw same at h.1)))

pub returns-in-Some-clause-wrong : goal.returns-in-Some-clause-wrong
returns-in-Some-clause-wrong c =
    let Again : List StatusText → Type 0 = λ xs. IsFirstAgain (λ a. a.id) xs c.in-Some.again in
    let read = c.in_ok-texts.ensures.read in
    inr (
      (c.in_ok-texts.texts.items, read),
      inl (
        c.in_ok-texts.texts.items,
        c.in-Some.again,
        read,
        subst Again c.as_slice.ensures.value c.in-Some.ensures.first,
        c.in_entry.ensures ∙ ap (in_entry (codes "status") (c.in-Some.again + 1)) c.at.ensures,
      ),
    )
