-- `==` of courses.
use Rattle.std.proofs.Common.{◌≡◌, Bool, true, false, List, refl, ap}
use Rattle.std.specs.Bool.{Decides}
use Rattle.std.proofs.lemmas.Bool.Decides.{Decides-and, Decides-like}
use Rattle.std.proofs.lemmas.Slice.Eq.{slice_eq-Decides}
use Rattle.arrayvec.specs.declared.array_vec.ArrayVec.{ArrayVec}
use Rattle.rdm_courses.specs.declared.course.Point.{Point}
use Rattle.rdm_courses.specs.declared.course.Way.{Way}
use Rattle.rdm_courses.specs.declared.course.Course.{Course}
use Rattle.rdm_courses.specs.contracts.course.PointPartialEq.TheImpl as points
use Rattle.rdm_courses.specs.contracts.course.WayPartialEq.TheImpl as ways
use Rattle.rdm_courses.specs.contracts.course.CoursePartialEq.TheImpl as courses
use mathlib.Core.Bool.{beq}
use lib.Pointwise.{pointwise}

abbrev IsByValue : {A : Type 0} → (A → A → Bool) → Type 0
IsByValue {A = A} eq = (a b : A) → Decides (eq a b) (a ≡ b)

abbrev listed : List Point → ArrayVec Point 16 (Unit {0})
listed ps = record { items = ps }

points_decide : IsByValue points.ghosts.eq → (v w : ArrayVec Point 16 (Unit {0})) → Decides (pointwise points.ghosts.eq v.items w.items) (v ≡ w)
points_decide point v w =
    Decides-like _ (ap listed) (ap (λ (u : ArrayVec Point 16 (Unit {0})). u.items)) (slice_eq-Decides point v.items w.items _ refl)

flags_decide : IsByValue beq
flags_decide true true = (λ _. refl, λ _. refl)
flags_decide true false = (λ e. absurd cc, λ e. absurd cc)
flags_decide false true = (λ e. absurd cc, λ e. absurd cc)
flags_decide false false = (λ _. refl, λ _. refl)

abbrev course_of : ArrayVec Point 16 (Unit {0}) → Way → Bool → Course
course_of a0 a1 a2 = record { points = a0; way = a1; repeats = a2 }

same_course : {a0 b0 : ArrayVec Point 16 (Unit {0})} {a1 b1 : Way} {a2 b2 : Bool} → a0 ≡ b0 → a1 ≡ b1 → a2 ≡ b2 → course_of a0 a1 a2 ≡ course_of b0 b1 b2
same_course e0 e1 e2 = rw (e0, e1, e2) refl

pub courses_decide : IsByValue points.ghosts.eq → IsByValue ways.ghosts.eq → IsByValue courses.ghosts.eq
courses_decide point way a b =
    Decides-like _ (λ e. same_course e.0 e.1.0 e.1.1)
    (λ e. (ap (λ (c : Course). c.points) e, (ap (λ (c : Course). c.way) e, ap (λ (c : Course). c.repeats) e)))
    (Decides-and _ _ (points_decide point a.points b.points) (Decides-and _ _ (way a.way b.way) (flags_decide a.repeats b.repeats)))
