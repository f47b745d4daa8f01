use Rattle.std.proofs.Common.{◌≡◌, ◌≤◌, take, length}
use Rattle.rdm_courses.specs.Courses.{values_come}
use Rattle.rdm_courses.proofs.course.values_come.Given as goal

abbrev pub invariant-loop-point : goal.invariant-loop-point
invariant-loop-point l = record {
  value : l.values.items ≡ values_come l.round l.looked l.now (take l.point-index l.points.items);
  within : length l.values.items ≤ l.point-index;
}
