-- `==` of fixtures.
use Rattle.std.proofs.Common.{◌≡◌, Bool, ℤ, Option, Some, None, refl, ap}
use Rattle.std.specs.Bool.{Decides}
use Rattle.std.specs.Option.{option_eq}
use Rattle.std.specs.Ordering.{int_eq}
use Rattle.std.proofs.lemmas.Bool.Decides.{Decides-and, Decides-like, Decides-eqb, Decides-int_eq}
use Rattle.std.proofs.lemmas.Slice.Eq.{slice_eq-Decides}
use Rattle.arrayvec.specs.declared.array_vec.ArrayVec.{ArrayVec}
use Rattle.rdm_courses.specs.declared.course.Course.{Course}
use Rattle.rdm_courses.specs.declared.notice.Notice.{Notice}
use Rattle.rdm_courses.specs.contracts.notice.NoticePartialEq.TheImpl as notices
use Rattle.rdm_courses.specs.contracts.course.CoursePartialEq.TheImpl as courses
use Rattle.rdm_frame.specs.contracts.uid.UidPartialEq.TheImpl as uids
use Rattle.rdm_profile.specs.contracts.profile.ProfilePartialEq.TheImpl as profiles
use Rattle.rdm_outcomes.specs.declared.rule.Rule.{Rule}
use Rattle.rdm_outcomes.specs.contracts.rule.RulePartialEq.TheImpl as rules
use Rattle.rdm_fixture.specs.declared.fixture.Fixture.{Fixture}
use Rattle.rdm_fixture.specs.contracts.fixture.FixturePartialEq.TheImpl as fixtures
use Rattle.rdm_fixture.specs.declared.starting.Starting.{Starting}
use Rattle.rdm_fixture.specs.contracts.starting.StartingPartialEq.TheImpl as starts
use Rattle.rdm_fixture.proofs.OneFixture.{listed, same_starting, same_fixture}
use lib.Pointwise.{pointwise}

-- `==` is true exactly where the values are equal
abbrev IsByValue : {A : Type 0} → (A → A → Bool) → Type 0
IsByValue {A = A} eq = (a b : A) → Decides (eq a b) (a ≡ b)

lists_decide : IsByValue rules.ghosts.eq → (v w : ArrayVec Rule 32 (Unit {0})) → Decides (pointwise rules.ghosts.eq v.items w.items) (v ≡ w)
lists_decide rule v w =
    Decides-like _ (ap (listed 32)) (ap (λ (u : ArrayVec Rule 32 (Unit {0})). u.items)) (slice_eq-Decides rule v.items w.items _ refl)

some_is : (x y : ℤ) → Some x ≡ Some y → x ≡ y
some_is x y e = cc

option_decides : (a b : Option ℤ) → Decides (option_eq int_eq a b) (a ≡ b)
option_decides None None = (λ _. refl, λ _. refl)
option_decides None (Some y) = (λ e. absurd cc, λ e. absurd cc)
option_decides (Some x) None = (λ e. absurd cc, λ e. absurd cc)
option_decides (Some x) (Some y) = Decides-like (int_eq x y) (ap Some) (some_is x y) (Decides-int_eq x y)

presents_decide : (v w : ArrayVec (Option ℤ) 8 (Unit {0})) → Decides (pointwise (option_eq int_eq) v.items w.items) (v ≡ w)
presents_decide v w =
    Decides-like _ (ap (listed 8)) (ap (λ (u : ArrayVec (Option ℤ) 8 (Unit {0})). u.items)) (slice_eq-Decides option_decides v.items w.items _ refl)

courses_decide : IsByValue courses.ghosts.eq → (v w : ArrayVec Course 8 (Unit {0})) → Decides (pointwise courses.ghosts.eq v.items w.items) (v ≡ w)
courses_decide course v w =
    Decides-like _ (ap (listed 8)) (ap (λ (u : ArrayVec Course 8 (Unit {0})). u.items)) (slice_eq-Decides course v.items w.items _ refl)

notices_decide : IsByValue notices.ghosts.eq → (v w : ArrayVec Notice 16 (Unit {0})) → Decides (pointwise notices.ghosts.eq v.items w.items) (v ≡ w)
notices_decide notice v w =
    Decides-like _ (ap (listed 16)) (ap (λ (u : ArrayVec Notice 16 (Unit {0})). u.items)) (slice_eq-Decides notice v.items w.items _ refl)

pub starting_decides : IsByValue courses.ghosts.eq → IsByValue notices.ghosts.eq → IsByValue starts.ghosts.eq
starting_decides course notice a b =
    Decides-like _ (λ e. same_starting e.0 e.1.0 e.1.1.0 e.1.1.1.0 e.1.1.1.1.0 e.1.1.1.1.1.0 e.1.1.1.1.1.1)
    (λ e. (
      ap (λ (s : Starting). s.device_hours) e,
      (
        ap (λ (s : Starting). s.lamp_hours) e,
        (ap (λ (s : Starting). s.lamp_strikes) e, (ap (λ (s : Starting). s.device_power_cycles) e, (ap (λ (s : Starting). s.presents) e, (ap (λ (s : Starting). s.courses) e, ap (λ (s : Starting). s.notices) e)))),
      ),
    ))
    (Decides-and _ _ (Decides-eqb a.device_hours b.device_hours) (Decides-and _ _ (Decides-eqb a.lamp_hours b.lamp_hours)
    (Decides-and _ _ (Decides-eqb a.lamp_strikes b.lamp_strikes) (Decides-and _ _ (Decides-eqb a.device_power_cycles b.device_power_cycles)
    (Decides-and _ _ (presents_decide a.presents b.presents) (Decides-and _ _ (courses_decide course a.courses b.courses) (notices_decide notice a.notices b.notices)))))))

pub fixture_decides : IsByValue uids.ghosts.eq → IsByValue profiles.ghosts.eq → IsByValue rules.ghosts.eq → IsByValue starts.ghosts.eq → IsByValue fixtures.ghosts.eq
fixture_decides uid profile rule start a b =
    Decides-like _ (λ e. same_fixture e.0 e.1.0 e.1.1.0 e.1.1.1)
    (λ e. (ap (λ (f : Fixture). f.uid) e, (ap (λ (f : Fixture). f.profile) e, (ap (λ (f : Fixture). f.outcomes) e, ap (λ (f : Fixture). f.start) e))))
    (Decides-and _ _ (uid a.uid b.uid) (Decides-and _ _ (profile a.profile b.profile) (Decides-and _ _ (lists_decide rule a.outcomes b.outcomes) (start a.start b.start))))
