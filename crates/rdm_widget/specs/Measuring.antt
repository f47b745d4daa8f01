-- What becomes of a responder whose sensors show something over time (E1.20 section 10.7.2), and which has status messages of its own.
use Rattle.std.specs.Prelude.{ℕ, ℤ, if◌then◌else◌, List, [], ◌∷◌, Option, Some, None}
use Rattle.rdm_commands.specs.declared.placing.PlaceError.{PlaceError}
use Rattle.rdm_commands.specs.declared.verdict.Verdict.{Verdict}
use Rattle.rdm_commands.specs.declared.verdict.Verdict.TheVariants.{Reply}
use Rattle.rdm_commands.specs.Commands.Commands.{got}
use Rattle.rdm_commands.specs.Commands.Placing.{place_refusal}
use Rattle.rdm_courses.specs.declared.notice.Notice.{Notice}
use Rattle.rdm_courses.specs.Courses.{shown_since}
use Rattle.rdm_courses.specs.Notices.{notice_comes, entry_of}
use Rattle.rdm_device.specs.Device.Measuring.{measured}
use Rattle.rdm_responder.specs.History.{History, Noted, Placed, then_event}
use Rattle.rdm_responder.specs.Laws.{values_of}
use Rattle.rdm_widget.specs.declared.live_fixture.measuring.SensorCourse.{SensorCourse}

-- What the sensor of this number shows once it has measured v, of what it showed before, in the slots of SENSOR_VALUE: v is present, the
-- lowest and the highest value take it in, and the recorded value stays. Other slots are none of SENSOR_VALUE.
abbrev pub with_present : ℕ → ℤ → List ℕ → List ℕ
with_present number v (n ∷ a ∷ b ∷ c ∷ d ∷ e ∷ f ∷ g ∷ h ∷ []) = number ∷ measured v (a ∷ b ∷ c ∷ d ∷ e ∷ f ∷ g ∷ h ∷ [])
with_present number v _ = []

-- these slots are placed, unless the responder refuses them
abbrev pub after_slots : Option PlaceError → History → List ℕ → History
after_slots None h slots = then_event h (Placed 0 0x0201 slots)
after_slots (Some refusal) h slots = h

-- a sensor has measured v, if a GET of it is answered at once
abbrev pub after_answer : History → ℕ → ℤ → Verdict → History
after_answer h number v (Reply slots) =
    after_slots (place_refusal (values_of h) 0 0x0201 (with_present number v slots)) h (with_present number v slots)
after_answer h number v _ = h

abbrev pub after_value : History → ℕ → ℤ → History
after_value h number v = after_answer h number v (got (values_of h) 0 0x0201 (number ∷ []))

-- it has measured these values, one after the other
abbrev pub after_values : ℕ → List ℤ → History → History
after_values number [] h = h
after_values number (v ∷ vs) h = after_values number vs (after_value h number v)

-- Each sensor has measured what its course says since the last look: the value of each point that has come, and the present one.
abbrev pub after_courses : Option ℕ → ℕ → List SensorCourse → History → History
after_courses looked now [] h = h
after_courses looked now (c ∷ cs) h = after_courses looked now cs (after_values c.sensor (shown_since c.course looked now) h)

-- ---- status messages

-- a message that has come since the last look is noted, once
abbrev pub after_notice : Option ℕ → ℕ → Notice → History → History
after_notice looked now n h = if notice_comes n looked now then then_event h (Noted (entry_of n)) else h

-- And so is each of them, one after the other. Section 10.3.2.
abbrev pub after_notices : Option ℕ → ℕ → List Notice → History → History
after_notices looked now [] h = h
after_notices looked now (n ∷ ns) h =
    after_notices looked now ns (after_notice looked now n h)
