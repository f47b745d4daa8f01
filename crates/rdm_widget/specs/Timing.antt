-- What of a fixture isn't its responder.
use Rattle.std.specs.Prelude.{ℕ, List, Option}
use Rattle.rdm_courses.specs.declared.notice.Notice.{Notice}
use Rattle.rdm_outcomes.specs.declared.planned.Planned.{Planned}
use Rattle.rdm_widget.specs.declared.live_fixture.LiveFixture.{LiveFixture}
use Rattle.rdm_widget.specs.declared.live_fixture.measuring.SensorCourse.{SensorCourse}

-- How its jobs end, since when each worker is at its oldest one, what its sensors show over time, which
-- status messages come, and when it was looked last what has come.
pub record Timing : Type 0 where
  pub planned : Planned
  pub first_since : ℕ
  pub second_since : ℕ
  pub courses : List SensorCourse
  pub notices : List Notice
  pub looked : Option ℕ

abbrev pub timing_of : LiveFixture → Timing
timing_of d = record { planned = d.planned; first_since = d.first_since; second_since = d.second_since; courses = d.courses.items; notices = d.notices.items; looked = d.looked }
