use Rattle.std.proofs.Common.{◌≡◌, ◌≤◌, drop}
use Rattle.rdm_courses.specs.Courses.{held, time_of}
use Rattle.rdm_courses.proofs.course.held.Given as goal

abbrev pub invariant-loop-next : goal.invariant-loop-next
invariant-loop-next l = record {
  come : time_of l.point ≤ l.time;
  same : held l.way l.point (drop l.next-index l.rest) l.time ≡ held l.way l.first l.rest l.time;
}
