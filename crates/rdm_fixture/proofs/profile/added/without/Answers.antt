use Rattle.std.proofs.Common.{◌≡◌, inl, inr, sym, ap, ◌∙◌, subst}
use Rattle.std.proofs.lemmas.Bool.{false≢true}
use Rattle.rdm_profile.specs.LeftOut.{leave_no_need}
use Rattle.rdm_profile.specs.Profiles.{AreOptional}
use Rattle.rdm_fixture.proofs.OneFixture.{one_names}
use Rattle.rdm_fixture.proofs.profile.added.without.Goals as goal

pub returns-then-not-are_optional-clause-read : goal.returns-then-not-are_optional-clause-read
returns-then-not-are_optional-clause-read c = λ xs h.
    let same : xs.items ≡ c.as_slice.result.now = one_names _ _ _ h.0 c.in_ok-pids.ensures.read ∙ sym c.as_slice.ensures.value in
    absurd (false≢true (sym c.if-not-are_optional.true ∙ c.are_optional.ensures.1 (subst AreOptional same h.1.optional)))

pub returns-then-not-are_optional-clause-wrong : goal.returns-then-not-are_optional-clause-wrong
returns-then-not-are_optional-clause-wrong c =
    let read = c.in_ok-pids.ensures.read in
    inr (
      (c.in_ok-pids.pids.items, read),
      inl (
        c.in_ok-pids.pids.items,
        read,
        (λ all. false≢true (sym c.if-not-are_optional.true ∙ c.are_optional.ensures.1 (subst AreOptional (sym c.as_slice.ensures.value) all))),
        c.at.ensures,
      ),
    )

pub returns-then-not-leave_no_need-clause-read : goal.returns-then-not-leave_no_need-clause-read
returns-then-not-leave_no_need-clause-read c = λ xs h.
    let same : xs.items ≡ c.as_slice-2.result.now = one_names _ _ _ h.0 c.in_ok-pids.ensures.read ∙ sym c.as_slice-2.ensures.value in
    absurd (false≢true (sym c.if-not-leave_no_need.true ∙ c.leave_no_need.ensures ∙ ap leave_no_need (sym same) ∙ h.1.needs))

pub returns-then-not-leave_no_need-clause-wrong : goal.returns-then-not-leave_no_need-clause-wrong
returns-then-not-leave_no_need-clause-wrong c =
    let read = c.in_ok-pids.ensures.read in
    let optional : AreOptional c.in_ok-pids.pids.items = subst AreOptional c.as_slice.ensures.value (c.are_optional.ensures.0 c.if-not-are_optional.false) in
    inr (
      (c.in_ok-pids.pids.items, read),
      inr (
        (c.in_ok-pids.pids.items, (read, optional)),
        inl (
          c.in_ok-pids.pids.items,
          read,
          ap leave_no_need (sym c.as_slice-2.ensures.value) ∙ sym c.leave_no_need.ensures ∙ c.if-not-leave_no_need.true,
          c.at-then-not-leave_no_need.ensures,
        ),
      ),
    )

pub returns-clause-read : goal.returns-clause-read
returns-clause-read c = (
  c.in_ok-pids.ensures.read,
  record {
    optional = subst AreOptional c.as_slice.ensures.value (c.are_optional.ensures.0 c.if-not-are_optional.false);
    needs = ap leave_no_need (sym c.as_slice-2.ensures.value) ∙ sym c.leave_no_need.ensures ∙ c.if-not-leave_no_need.false;
  },
)
