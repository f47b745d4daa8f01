use Rattle.std.proofs.Common.{◌≡◌, ◌∙◌, [], ◌∷◌, Some, refl, sym, ap, inl, inr}
use Rattle.toml.specs.View.{table_view}
use Rattle.rdm_fixture_keys.specs.Faults.{fault}
use Rattle.rdm_fixture.specs.FirstWrong as parts
use Rattle.rdm_fixture.specs.Outcomes.{outcome_in}
use Rattle.rdm_fixture_keys.specs.Wrong.{AllRight}
use Rattle.rdm_fixture_keys.specs.declared.refusal.Wanted.TheVariants as wanted
use Rattle.rdm_fixture_keys.proofs.Parts.{behind, some}
use Rattle.rdm_fixture.proofs.WrongRules.{unsuited}
use Rattle.rdm_fixture.proofs.outcomes.wrong.what_is_wrong.Goals as goal

pub returns-in-Ok : goal.returns-in-Ok
returns-in-Ok c =
    let right : AllRight parts.job_parts (table_view c.args.table.now) = c.in_default-wrong_jobs.ensures in
    let said : outcome_in (table_view c.args.table.now) ≡ Some c.in-Some-outcome.outcome = sym c.in-Some-outcome.ensures in
    let (x, named, unfit) = unsuited (table_view c.args.table.now) c.in-Some-outcome.outcome c.requires right said (c.in-Ok.ensures.variant.0 refl) in
    inr (
      c.in_default.ensures.variant.0 refl,
      behind parts.job_parts (parts.outcome ∷ parts.one_outcome ∷ parts.suiting ∷ []) _ _ right
          (inr (
            some c.in-Some-outcome.outcome c.in-Some-outcome.ensures,
            inr (
              (c.in-Some-outcome.outcome, said, c.in-Ok.ensures.variant.0 refl),
              inl (x, c.in-Some-outcome.outcome, named, said, unfit, c.at.ensures ∙ ap (λ k. fault k wanted.Suiting) c.key_of.ensures),
            ),
          )),
    )
