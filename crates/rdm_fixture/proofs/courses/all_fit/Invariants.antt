use Rattle.std.proofs.Common.{◌≡◌, ℕ, ◌<◌, None, slice_index_or}
use Rattle.rdm_courses.specs.declared.course.Course.{Course}
use Rattle.rdm_profile.specs.declared.profile.SensorDef.{SensorDef}
use Rattle.rdm_fixture.specs.OverTime.{misfit}
use Rattle.rdm_fixture.proofs.courses.all_fit.Given as goal

-- each course before this one fits
abbrev pub invariant-loop-n : goal.invariant-loop-n
invariant-loop-n l =
    (i : ℕ) (c : Course) (s : SensorDef) → i < l.n → misfit (slice_index_or l.courses i c) (slice_index_or l.sensors i s).at_once ≡ None
