-- The fixture in time: a worker has one job at a time, which ends when its estimate has passed. Times are in milliseconds.
use Rattle.std.specs.Prelude.{◌≡◌, ℕ, zero, suc, ◌+◌, ◌*◌, ◌==◌, List, [], ◌∷◌, nat_lt, nat_le, slice_get, Option, Some, None, if◌then◌else◌}
use Rattle.rdm_commands.specs.declared.panel.Change.{Change}
use Rattle.rdm_params.specs.Device.Parameters.{Parameters}
use Rattle.rdm_params.specs.Jobs.Work.{worker_at, estimate_of}
use Rattle.rdm_outbox.specs.declared.job.Job.{Job}
use Rattle.rdm_outbox.specs.Jobs.{outstanding_of, outstanding_count}
use Rattle.rdm_outcomes.specs.declared.rule.Rule.{Rule}
use Rattle.rdm_outcomes.specs.Outcomes.{outcome_of, HasEnded}
use Rattle.rdm_responder.specs.declared.report.Report.{Report}
use Rattle.rdm_responder.specs.History.{Setup, Event, Heard, Arrived, Changed, Placed, Noted, Restored, Dropped, History, empty_history, then_event}
use Rattle.rdm_responder.specs.Laws.{values_of}
use Rattle.rdm_responder.specs.Rules.{reply_of}
use Rattle.rdm_responder.specs.Runs.{outbox_of}
use Rattle.rdm_responder.specs.StandsFor.{StandsFor}
use Rattle.rdm_widget.specs.declared.live_fixture.LiveFixture.{LiveFixture}
use Rattle.rdm_courses.specs.declared.notice.Notice.{Notice}
use Rattle.rdm_widget.specs.declared.live_fixture.ending.Ended.{Ended}
use Rattle.rdm_widget.specs.declared.live_fixture.measuring.SensorCourse.{SensorCourse}
use Rattle.rdm_widget.specs.Measuring.{after_courses, after_notices}
use Rattle.rdm_messages.specs.Hearing.{Hearing}

-- By which rules jobs end, what sensors show over time, which status messages come, what has happened to the responder, since when each
-- worker is at its oldest job, and when it was looked last what has come, if it was. A worker without a job may begin one from then on.
pub record Situation : Type 0 where
  pub rules : List Rule
  pub courses : List SensorCourse
  pub notices : List Notice
  pub history : History
  pub first_since : ℕ
  pub second_since : ℕ
  pub looked : Option ℕ

-- the fixture is switched on
abbrev pub switched_on : List Rule → Setup → Situation
switched_on rules setup = record { rules = rules; courses = []; notices = []; history = empty_history setup; first_since = 0; second_since = 0; looked = None }

-- its sensors are to follow these courses
abbrev pub following : List SensorCourse → Situation → Situation
following courses s = record s { courses = courses }

-- it is to have these status messages
abbrev pub telling : List Notice → Situation → Situation
telling notices s = record s { notices = notices }

-- ---- when jobs end

-- the worker that has a job, as the profile chose
abbrev pub worker_in : History → Job → ℕ
worker_in h job = worker_at (outbox_of h).workers job.work

-- the job that a worker is at
abbrev pub oldest_of : History → ℕ → Option Job
oldest_of h worker = slice_get (outstanding_of (outbox_of h) worker) 0

-- when a job ends at which its worker is since then, at devices with these values: the estimates of their profile are in tenths of
-- a second (E1.20 section 6.3.3)
abbrev pub end_of : Parameters → ℕ → Job → ℕ
end_of values since job = since + 100 * estimate_of values.profile job.work

-- the job of a worker that has ended by now, if it has, and when
abbrev pub ended_by : Parameters → ℕ → ℕ → ℕ → Option Job → Option Ended
ended_by values now worker since None = None
ended_by values now worker since (Some job) =
    if nat_le (end_of values since job) now then Some (record { job = job; worker = worker; at = end_of values since job }) else None

-- the one that ended first, and that of the first worker if both ended at once
abbrev pub earlier : Option Ended → Option Ended → Option Ended
earlier (Some first) (Some second) = Some (if nat_lt second.at first.at then second else first)
earlier (Some first) None = Some first
earlier None second = second

-- of both workers the job that ended first, if one has ended by now
abbrev pub first_ended : ℕ → Situation → Option Ended
first_ended now s =
    earlier (ended_by (values_of s.history) now 0 s.first_since (oldest_of s.history 0))
    (ended_by (values_of s.history) now 1 s.second_since (oldest_of s.history 1))

-- ---- what is reported

-- the jobs whose reports have arrived, in order
abbrev pub reported_in : List Event → List Job
reported_in [] = []
reported_in (Arrived report ∷ events) = report.job ∷ reported_in events
reported_in (Heard bytes ∷ events) = reported_in events
reported_in (Changed change ∷ events) = reported_in events
reported_in (Placed sub pid bytes ∷ events) = reported_in events
reported_in (Noted entry ∷ events) = reported_in events
reported_in (Restored image ∷ events) = reported_in events
reported_in (Dropped ∷ events) = reported_in events

-- the report of a job, which ends by the rules after the jobs before
abbrev pub report_of : Situation → Job → Report
report_of s job = record { job = job; outcome = outcome_of s.rules (reported_in s.history.events) job }

-- since when a worker is at its oldest job, once this job has ended
abbrev pub since_after : ℕ → Ended → ℕ → ℕ
since_after worker ended since = if ended.worker == worker then ended.at else since

-- a job that has ended is reported, and from then on its worker is at the next one
abbrev pub after_report : Situation → Ended → Situation
after_report s ended = record s {
  history = then_event s.history (Arrived (report_of s ended.job));
  first_since = since_after 0 ended s.first_since;
  second_since = since_after 1 ended s.second_since;
}

abbrev pub after_ended : Situation → Option Ended → Situation
after_ended s None = s
after_ended s (Some ended) = after_report s ended

-- the job that ended first is reported, if one has ended by now
abbrev pub after_next : ℕ → Situation → Situation
after_next now s = after_ended s (first_ended now s)

-- and so on, N times
abbrev pub after_several : ℕ → ℕ → Situation → Situation
after_several zero now s = s
after_several (suc n) now s = after_several n now (after_next now s)

-- a worker without a job may begin one from now on
abbrev pub since_when : ℕ → ℕ → Option Job → ℕ
since_when now since None = now
since_when now since (Some job) = since

abbrev pub begun : ℕ → Situation → Situation
begun now s = record s {
  first_since = since_when now s.first_since (oldest_of s.history 0);
  second_since = since_when now s.second_since (oldest_of s.history 1);
}

-- All jobs that have ended by now are reported, in the order in which they ended.
abbrev pub reported : ℕ → Situation → Situation
reported now s = begun now (after_several (outstanding_count (outbox_of s.history)) now s)

-- ---- what comes by itself

-- the sensors have shown by now what their courses say, and the status messages that have come are noted
abbrev pub up_to_date : ℕ → Situation → Situation
up_to_date now s = record s {
  history = after_notices s.looked now s.notices (after_courses s.looked now s.courses s.history);
  looked = Some now;
}

-- Before a request is heard, what has come by itself is placed and noted, and then the jobs that have ended are reported.
abbrev pub ready : ℕ → Situation → Situation
ready now s = reported now (up_to_date now s)

-- ---- what happens beside

-- bytes are heard on the line
abbrev pub after_heard : Situation → List ℕ → Situation
after_heard s bytes = record s { history = then_event s.history (Heard bytes) }

-- a person changes something at the fixture's own menu
abbrev pub after_panel : Situation → Change → Situation
after_panel s change = record s { history = then_event s.history (Changed change) }

-- the firmware places a value, as it does what the fixture is switched on with
abbrev pub after_placing : Situation → ℕ → ℕ → List ℕ → Situation
after_placing s sub pid bytes = record s { history = then_event s.history (Placed sub pid bytes) }

-- the values are restored from an image, as it is done when the fixture was switched on
abbrev pub after_restore : Situation → List ℕ → Situation
after_restore s image = record s { history = then_event s.history (Restored image) }

-- ---- when a fixture is in a situation

pub record IsIn (d : LiveFixture) (s : Situation) : Type 0 where
  pub uid : d.uid ≡ s.history.setup.uid
  pub responder : StandsFor d.responder s.history
  pub planned : HasEnded d.planned s.rules (reported_in s.history.events)
  pub first : d.first_since ≡ s.first_since
  pub second : d.second_since ≡ s.second_since
  pub courses : d.courses.items ≡ s.courses
  pub notices : d.notices.items ≡ s.notices
  pub looked : d.looked ≡ s.looked

-- A fixture on a line: before it hears a request, it is made ready.
abbrev pub fixture_hearing : Hearing LiveFixture Situation
fixture_hearing = record {
  is_in = IsIn;
  reply = λ now s bytes. reply_of (ready now s).history bytes;
  heard = λ now s bytes. after_heard (ready now s) bytes;
}

-- ---- a law

-- No job that is outstanding has ended by now.
pub record NoneHasEnded (now : ℕ) (s : Situation) : Type 0 where
  pub first : ended_by (values_of s.history) now 0 s.first_since (oldest_of s.history 0) ≡ None
  pub second : ended_by (values_of s.history) now 1 s.second_since (oldest_of s.history 1) ≡ None

-- Once the reports are handed in, that is so.
abbrev pub ReportsAreHandedIn : Type 0
ReportsAreHandedIn = (now : ℕ) (s : Situation) → NoneHasEnded now (ready now s)
