use Rattle.std.proofs.Common.{◌≡◌, true, inl, inr, sym, ap, ◌∙◌}
use Rattle.std.proofs.lemmas.Bool.{false≢true}
use Rattle.rdm_profile.specs.OwnParameters.{can_start, has_good_fields}
use Rattle.rdm_profile.specs.Standards.{follows}
use Rattle.toml.specs.View.{table_view}
use Rattle.rdm_fixture.specs.FirstWrong.{parameter_parts}
use Rattle.rdm_fixture.specs.Parameters.{IsParameter, can_reset}
use Rattle.rdm_fixture_keys.specs.Wrong.{FirstWrong}
use Rattle.rdm_fixture.proofs.OneFixture.{one_said}
use Rattle.rdm_fixture_keys.proofs.Parts.{exit}
use Rattle.rdm_fixture_keys.proofs.Readings.{Reads-err}
use Rattle.rdm_fixture.proofs.parameters.ParameterDefFromEntry.from_entry.Goals as goal

pub returns-in_err-def-clause-read : goal.returns-in_err-def-clause-read
returns-in_err-def-clause-read c = Reads-err IsParameter _ _ c.from_residual.ensures.0 (λ d h. c.in_err-def.ensures.read d h.said)

pub returns-in_err-def-clause-wrong : goal.returns-in_err-def-clause-wrong
returns-in_err-def-clause-wrong c =
    exit (FirstWrong parameter_parts (table_view c.args.table.now)) _ _ c.from_residual.ensures.1 (inl c.in_err-def.ensures.wrong)

pub returns-then-not-has_good_fields-clause-read : goal.returns-then-not-has_good_fields-clause-read
returns-then-not-has_good_fields-clause-read c = λ d h.
    let same : d ≡ c.in_ok-def.def = one_said _ d c.in_ok-def.def h.said c.in_ok-def.ensures.read in
    absurd (false≢true (sym c.if-not-has_good_fields.true ∙ c.has_good_fields.ensures ∙ ap has_good_fields (sym same) ∙ h.fields))

pub returns-then-not-has_good_fields-clause-wrong : goal.returns-then-not-has_good_fields-clause-wrong
returns-then-not-has_good_fields-clause-wrong c =
    let said = c.in_ok-def.ensures.read in
    inr ((c.in_ok-def.def, said), inl (c.in_ok-def.def, said, sym c.has_good_fields.ensures ∙ c.if-not-has_good_fields.true, c.at.ensures))

pub returns-then-not-can_start-clause-read : goal.returns-then-not-can_start-clause-read
returns-then-not-can_start-clause-read c = λ d h.
    let same : d ≡ c.in_ok-def.def = one_said _ d c.in_ok-def.def h.said c.in_ok-def.ensures.read in
    absurd (false≢true (sym c.if-not-can_start.true ∙ c.can_start.ensures ∙ ap can_start (sym same) ∙ h.start))

pub returns-then-not-can_start-clause-wrong : goal.returns-then-not-can_start-clause-wrong
returns-then-not-can_start-clause-wrong c =
    let said = c.in_ok-def.ensures.read in
    let fields : has_good_fields c.in_ok-def.def ≡ true = sym c.has_good_fields.ensures ∙ c.if-not-has_good_fields.false in
    inr (
      (c.in_ok-def.def, said),
      inr (
        (c.in_ok-def.def, (said, fields)),
        inl (c.in_ok-def.def, said, sym c.can_start.ensures ∙ c.if-not-can_start.true, c.at-then-not-can_start.ensures),
      ),
    )

pub returns-then-not-follows-clause-read : goal.returns-then-not-follows-clause-read
returns-then-not-follows-clause-read c = λ d h.
    let same : d ≡ c.in_ok-def.def = one_said _ d c.in_ok-def.def h.said c.in_ok-def.ensures.read in
    absurd (false≢true (sym c.if-not-follows.true ∙ c.follows.ensures ∙ ap follows (sym same) ∙ h.standard))

pub returns-then-not-follows-clause-wrong : goal.returns-then-not-follows-clause-wrong
returns-then-not-follows-clause-wrong c =
    let said = c.in_ok-def.ensures.read in
    let fields : has_good_fields c.in_ok-def.def ≡ true = sym c.has_good_fields.ensures ∙ c.if-not-has_good_fields.false in
    let starts : can_start c.in_ok-def.def ≡ true = sym c.can_start.ensures ∙ c.if-not-can_start.false in
    inr (
      (c.in_ok-def.def, said),
      inr (
        (c.in_ok-def.def, (said, fields)),
        inr (
          (c.in_ok-def.def, (said, starts)),
          inl (c.in_ok-def.def, said, sym c.follows.ensures ∙ c.if-not-follows.true, c.at-then-not-follows.ensures),
        ),
      ),
    )

pub returns-then-not-can_reset-clause-read : goal.returns-then-not-can_reset-clause-read
returns-then-not-can_reset-clause-read c = λ d h.
    let same : d ≡ c.in_ok-def.def = one_said _ d c.in_ok-def.def h.said c.in_ok-def.ensures.read in
    absurd (false≢true (sym c.if-not-can_reset.true ∙ c.can_reset.ensures ∙ ap can_reset (sym same) ∙ h.reset))

pub returns-then-not-can_reset-clause-wrong : goal.returns-then-not-can_reset-clause-wrong
returns-then-not-can_reset-clause-wrong c =
    let said = c.in_ok-def.ensures.read in
    let fields : has_good_fields c.in_ok-def.def ≡ true = sym c.has_good_fields.ensures ∙ c.if-not-has_good_fields.false in
    let starts : can_start c.in_ok-def.def ≡ true = sym c.can_start.ensures ∙ c.if-not-can_start.false in
    let standard : follows c.in_ok-def.def ≡ true = sym c.follows.ensures ∙ c.if-not-follows.false in
    inr (
      (c.in_ok-def.def, said),
      inr (
        (c.in_ok-def.def, (said, fields)),
        inr (
          (c.in_ok-def.def, (said, starts)),
          inr (
            (c.in_ok-def.def, (said, standard)),
            inl (c.in_ok-def.def, said, sym c.can_reset.ensures ∙ c.if-not-can_reset.true, c.at-then-not-can_reset.ensures),
          ),
        ),
      ),
    )

pub returns-clause-read : goal.returns-clause-read
returns-clause-read c = record {
  said = c.in_ok-def.ensures.read;
  fields = sym c.has_good_fields.ensures ∙ c.if-not-has_good_fields.false;
  start = sym c.can_start.ensures ∙ c.if-not-can_start.false;
  standard = sym c.follows.ensures ∙ c.if-not-follows.false;
  reset = sym c.can_reset.ensures ∙ c.if-not-can_reset.false;
}
