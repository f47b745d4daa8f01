use Rattle.std.proofs.Common.{◌≡◌, Bool, false, None, inl, inr, sym, ap, subst, ◌∙◌, codes}
use Rattle.toml.specs.Data.{get_member}
use Rattle.toml.specs.View.{table_view}
use Rattle.rdm_courses.specs.declared.course.Course.{Course}
use Rattle.rdm_fixture_keys.specs.declared.refusal.Wanted.TheVariants as wanted
use Rattle.rdm_fixture_keys.specs.Faults.{fault}
use Rattle.rdm_fixture_keys.specs.Values.{flag}
use Rattle.rdm_fixture_keys.proofs.Parts.{free_right}
use Rattle.rdm_fixture_keys.proofs.Readings.{not_none}
use Rattle.rdm_fixture.specs.OverTime.{misfit}
use Rattle.rdm_fixture.proofs.OneFixture.{one, one_course_said}
use Rattle.rdm_fixture.proofs.courses.CourseFromEntry.from_entry.Goals as goal

-- the table says no other course, and of no other sensor
pub returns-in-Some-clause-read : goal.returns-in-Some-clause-read
returns-in-Some-clause-read c = λ x h.
    let course = c.in_ok-course.course in
    let same : x ≡ course = one_course_said (table_view c.args.table.now) x course h.said c.in_ok-course.ensures.read in
    let answered : h.at_once ≡ c.in_ok-at_once.at_once = one h.answered (sym c.in_ok-at_once.ensures.value) in
    let fits : misfit course c.in_ok-at_once.at_once ≡ None =
    subst (λ (b : Bool). misfit course b ≡ None) answered (subst (λ (d : Course). misfit d h.at_once ≡ None) same h.fits) in
    not_none c.in-Some.why (sym c.in-Some.is ∙ c.misfit.ensures ∙ fits)

pub returns-in-Some-clause-wrong : goal.returns-in-Some-clause-wrong
returns-in-Some-clause-wrong c =
    let course = c.in_ok-course.course in
    inr (
      (course, c.in_ok-course.ensures.read),
      inr (
        free_right false flag (get_member (codes "answered_at_once") (table_view c.args.table.now)) c.in_ok-at_once.at_once c.in_ok-at_once.ensures.value,
        inl (
          course,
          c.in_ok-at_once.at_once,
          c.in-Some.why,
          c.in_ok-course.ensures.read,
          sym c.in_ok-at_once.ensures.value,
          sym c.misfit.ensures ∙ c.in-Some.is,
          c.at.ensures ∙ ap (λ key. fault key (wanted.Agreement c.in-Some.why)) c.misfit_key.ensures,
        ),
      ),
    )
