-- What measuring changes of a history: neither its setup, nor which jobs were reported.
use Rattle.std.proofs.Common.{◌≡◌, ℕ, ℤ, Bool, true, false, if◌then◌else◌, List, [], ◌∷◌, Option, Some, None, refl, ◌∙◌}
use Rattle.rdm_commands.specs.declared.placing.PlaceError.{PlaceError}
use Rattle.rdm_commands.specs.declared.verdict.Verdict.{Verdict}
use Rattle.rdm_commands.specs.declared.verdict.Verdict.TheVariants as verdict
use Rattle.rdm_commands.specs.Commands.Commands.{got}
use Rattle.rdm_commands.specs.Commands.Placing.{place_refusal}
use Rattle.rdm_courses.specs.declared.notice.Notice.{Notice}
use Rattle.rdm_courses.specs.Courses.{shown_since}
use Rattle.rdm_courses.specs.Notices.{notice_comes, entry_of}
use Rattle.rdm_responder.specs.History.{History, Noted, then_event}
use Rattle.rdm_responder.specs.Laws.{values_of}
use Rattle.rdm_widget.specs.declared.live_fixture.measuring.SensorCourse.{SensorCourse}
use Rattle.rdm_widget.specs.LiveFixtures.{reported_in}
use Rattle.rdm_widget.specs.Measuring.{with_present, after_slots, after_answer, after_value, after_values, after_courses, after_notices}
use Rattle.rdm_widget.proofs.Reports.{reported-noted, reported-placed}

record Stays (g h : History) : Type 0 where
  setup : g.setup ≡ h.setup
  reported : reported_in g.events ≡ reported_in h.events

stays_then : (f g h : History) → Stays f g → Stays g h → Stays f h
stays_then f g h one two = record { setup = one.setup ∙ two.setup; reported = one.reported ∙ two.reported }

slots_stay : (o : Option PlaceError) (h : History) (slots : List ℕ) → Stays (after_slots o h slots) h
slots_stay None h slots = record { setup = refl; reported = reported-placed h.events 0 0x0201 slots }
slots_stay (Some e) h slots = record { setup = refl; reported = refl }

answer_stays : (h : History) (number : ℕ) (v : ℤ) (w : Verdict) → Stays (after_answer h number v w) h
answer_stays h number v (verdict.Reply slots) = slots_stay (place_refusal (values_of h) 0 0x0201 (with_present number v slots)) h (with_present number v slots)
answer_stays h number v (verdict.Start work) = record { setup = refl; reported = refl }
answer_stays h number v (verdict.Queue ask) = record { setup = refl; reported = refl }
answer_stays h number v (verdict.Status ask) = record { setup = refl; reported = refl }
answer_stays h number v verdict.Clear = record { setup = refl; reported = refl }
answer_stays h number v (verdict.Refuse nack) = record { setup = refl; reported = refl }

values_stay : (number : ℕ) (vs : List ℤ) (h : History) → Stays (after_values number vs h) h
values_stay number [] h = record { setup = refl; reported = refl }
values_stay number (v ∷ vs) h =
    stays_then (after_values number vs (after_value h number v)) (after_value h number v) h (values_stay number vs (after_value h number v))
    (answer_stays h number v (got (values_of h) 0 0x0201 (number ∷ [])))

courses_stay : (looked : Option ℕ) (now : ℕ) (cs : List SensorCourse) (h : History) → Stays (after_courses looked now cs h) h
courses_stay looked now [] h = record { setup = refl; reported = refl }
courses_stay looked now (c ∷ cs) h =
    let next = after_values c.sensor (shown_since c.course looked now) h in
    stays_then (after_courses looked now cs next) next h (courses_stay looked now cs next) (values_stay c.sensor (shown_since c.course looked now) h)

noted_stays : (b : Bool) (n : Notice) (h : History) → Stays (if b then then_event h (Noted (entry_of n)) else h) h
noted_stays true n h = record { setup = refl; reported = reported-noted h.events (entry_of n) }
noted_stays false n h = record { setup = refl; reported = refl }

notices_stay : (looked : Option ℕ) (now : ℕ) (ns : List Notice) (h : History) → Stays (after_notices looked now ns h) h
notices_stay looked now [] h = record { setup = refl; reported = refl }
notices_stay looked now (n ∷ ns) h =
    let next = if notice_comes n looked now then then_event h (Noted (entry_of n)) else h in
    stays_then (after_notices looked now ns next) next h (notices_stay looked now ns next) (noted_stays (notice_comes n looked now) n h)

come_stay : (looked : Option ℕ) (now : ℕ) (ns : List Notice) (cs : List SensorCourse) (h : History)
    → Stays (after_notices looked now ns (after_courses looked now cs h)) h
come_stay looked now ns cs h =
    let next = after_courses looked now cs h in
    stays_then (after_notices looked now ns next) next h (notices_stay looked now ns next) (courses_stay looked now cs h)

pub come_setup : (looked : Option ℕ) (now : ℕ) (ns : List Notice) (cs : List SensorCourse) (h : History)
    → (after_notices looked now ns (after_courses looked now cs h)).setup ≡ h.setup
come_setup looked now ns cs h = (come_stay looked now ns cs h).setup

pub come_reported : (looked : Option ℕ) (now : ℕ) (ns : List Notice) (cs : List SensorCourse) (h : History)
    → reported_in (after_notices looked now ns (after_courses looked now cs h)).events ≡ reported_in h.events
come_reported looked now ns cs h = (come_stay looked now ns cs h).reported
