use Rattle.std.proofs.Common.{◌≡◌, refl, inl, inr, sym, ◌∙◌, subst}
use Rattle.toml.specs.View.{table_view}
use Rattle.rdm_fixture.specs.declared.fixture.Fixture.{Fixture}
use Rattle.rdm_fixture.specs.Drafts.{profile_with, fixture_with}
use Rattle.rdm_fixture.specs.FirstWrong.{fixture_parts}
use Rattle.rdm_fixture.specs.Format.{IsFixture, SaysFixture}
use Rattle.rdm_fixture.specs.Working.{CanWork}
use Rattle.rdm_fixture_keys.specs.Wrong.{FirstWrong}
use Rattle.rdm_fixture_keys.proofs.Parts.{exit, some}
use Rattle.rdm_fixture.proofs.Made.{made}
use Rattle.rdm_fixture.proofs.Described.{describable}
use Rattle.rdm_fixture.proofs.OneFixture.{one_said_fixture}
use Rattle.rdm_fixture_keys.proofs.Readings.{Reads-err, not_none, none_said}
use Rattle.rdm_fixture.proofs.document.fixture_of.Goals as goal

-- ---- what was read

pub returns-in-None-clause-read : goal.returns-in-None-clause-read
returns-in-None-clause-read c = record {
  keys = c.in_ok-only.ensures.variant.0 refl;
  said = record { own = sym c.in_ok-uid.ensures.value; profile = c.in_ok-profile.ensures.read; outcomes = c.in_ok-outcomes.ensures.read; start = c.in_ok-start.ensures.read };
  works = c.said_in_vain.ensures.none.0 c.in-None.is;
}

pub returns-in-None-clause-made : goal.returns-in-None-clause-made
returns-in-None-clause-made c = made _ (profile_with c.in_ok-profile.profile c.in_ok-profile.apart) c.in_ok-profile.ensures.read
    (c.said_in_vain.ensures.none.0 c.in-None.is).opened (c.said_in_vain.ensures.none.0 c.in-None.is).held

pub returns-in-None-clause-describable : goal.returns-in-None-clause-describable
returns-in-None-clause-describable c =
    describable (table_view c.args.table.now) _
    (record { own = sym c.in_ok-uid.ensures.value; profile = c.in_ok-profile.ensures.read; outcomes = c.in_ok-outcomes.ensures.read; start = c.in_ok-start.ensures.read })
    (c.said_in_vain.ensures.none.0 c.in-None.is)

-- ---- what is said in vain

pub returns-in-Some-clause-read : goal.returns-in-Some-clause-read
returns-in-Some-clause-read c = λ r h.
    let f : Fixture = fixture_with (record { uid = c.in_ok-uid.uid; profile = c.in_ok-profile.profile; outcomes = c.in_ok-outcomes.outcomes; start = c.in_ok-start.start }) c.in_ok-profile.apart in
    let said : SaysFixture (table_view c.args.table.now) f =
    record { own = sym c.in_ok-uid.ensures.value; profile = c.in_ok-profile.ensures.read; outcomes = c.in_ok-outcomes.ensures.read; start = c.in_ok-start.ensures.read } in
    let same : fixture_with r.0 r.1 ≡ f = one_said_fixture (table_view c.args.table.now) (fixture_with r.0 r.1) f h.said said in
    let works : CanWork f = subst CanWork same h.works in
    absurd (not_none _ (sym c.in-Some.is ∙ c.said_in_vain.ensures.none.1 works))

pub returns-in-Some-clause-wrong : goal.returns-in-Some-clause-wrong
returns-in-Some-clause-wrong c =
    let f : Fixture = fixture_with (record { uid = c.in_ok-uid.uid; profile = c.in_ok-profile.profile; outcomes = c.in_ok-outcomes.outcomes; start = c.in_ok-start.start }) c.in_ok-profile.apart in
    let said : SaysFixture (table_view c.args.table.now) f =
    record { own = sym c.in_ok-uid.ensures.value; profile = c.in_ok-profile.ensures.read; outcomes = c.in_ok-outcomes.ensures.read; start = c.in_ok-start.ensures.read } in
    inr (
      c.in_ok-only.ensures.variant.0 refl,
      inr (
        some _ c.in_ok-uid.ensures.value,
        inr (
          (profile_with c.in_ok-profile.profile c.in_ok-profile.apart, c.in_ok-profile.ensures.read),
          inr ((_, c.in_ok-outcomes.ensures.read), inr ((c.in_ok-start.start, c.in_ok-start.ensures.read), inl (f, said, c.in-Some.ensures.wrong))),
        ),
      ),
    )

-- ---- what wasn't read

pub returns-in_err-uid-clause-read : goal.returns-in_err-uid-clause-read
returns-in_err-uid-clause-read c =
    Reads-err (λ t r. IsFixture t (fixture_with r.0 r.1)) _ _ c.from_residual-in_err-uid.ensures.0 (λ r h. none_said _ c.in_err-uid.ensures.value h.said.own)

pub returns-in_err-profile-clause-wrong : goal.returns-in_err-profile-clause-wrong
returns-in_err-profile-clause-wrong c =
    exit (FirstWrong fixture_parts (table_view c.args.table.now)) _ _ c.from_residual-in_err-profile.ensures.1
    (inr (c.in_ok-only.ensures.variant.0 refl, inr (some _ c.in_ok-uid.ensures.value, inl c.in_err-profile.ensures.wrong)))

pub returns-in_err-profile-clause-read : goal.returns-in_err-profile-clause-read
returns-in_err-profile-clause-read c =
    Reads-err (λ t r. IsFixture t (fixture_with r.0 r.1)) _ _ c.from_residual-in_err-profile.ensures.0 (λ r h. c.in_err-profile.ensures.read (r.0.profile, r.1) h.said.profile)

pub returns-in_err-outcomes-clause-wrong : goal.returns-in_err-outcomes-clause-wrong
returns-in_err-outcomes-clause-wrong c =
    exit (FirstWrong fixture_parts (table_view c.args.table.now)) _ _ c.from_residual-in_err-outcomes.ensures.1
    (inr (c.in_ok-only.ensures.variant.0 refl, inr (some _ c.in_ok-uid.ensures.value, inr ((profile_with c.in_ok-profile.profile c.in_ok-profile.apart, c.in_ok-profile.ensures.read), inl c.in_err-outcomes.ensures.wrong))))

pub returns-in_err-outcomes-clause-read : goal.returns-in_err-outcomes-clause-read
returns-in_err-outcomes-clause-read c =
    Reads-err (λ t r. IsFixture t (fixture_with r.0 r.1)) _ _ c.from_residual-in_err-outcomes.ensures.0 (λ r h. c.in_err-outcomes.ensures.read r.0.outcomes h.said.outcomes)

pub returns-in_err-start-clause-wrong : goal.returns-in_err-start-clause-wrong
returns-in_err-start-clause-wrong c =
    exit (FirstWrong fixture_parts (table_view c.args.table.now)) _ _ c.from_residual-in_err-start.ensures.1
    (inr (c.in_ok-only.ensures.variant.0 refl, inr (some _ c.in_ok-uid.ensures.value, inr ((profile_with c.in_ok-profile.profile c.in_ok-profile.apart, c.in_ok-profile.ensures.read), inr ((_, c.in_ok-outcomes.ensures.read), inl c.in_err-start.ensures.wrong)))))

pub returns-in_err-start-clause-read : goal.returns-in_err-start-clause-read
returns-in_err-start-clause-read c =
    Reads-err (λ t r. IsFixture t (fixture_with r.0 r.1)) _ _ c.from_residual-in_err-start.ensures.0 (λ r h. c.in_err-start.ensures.read r.0.start h.said.start)
