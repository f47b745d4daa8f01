-- What comes by itself to a fixture mutes nobody, and changes no UID.
use Rattle.std.proofs.Common.{◌≡◌, ℕ, ℤ, Bool, true, false, if◌then◌else◌, List, [], ◌∷◌, Option, Some, None, refl, ap, ◌∙◌}
use Rattle.rdm_commands.specs.declared.placing.PlaceError.{PlaceError}
use Rattle.rdm_commands.specs.declared.verdict.Verdict.{Verdict}
use Rattle.rdm_commands.specs.declared.verdict.Verdict.TheVariants as verdict
use Rattle.rdm_params.specs.Commands.Commands.{got}
use Rattle.rdm_params.specs.Commands.Placing.{place_refusal}
use Rattle.rdm_courses.specs.declared.notice.Notice.{Notice}
use Rattle.rdm_courses.specs.Courses.{shown_since}
use Rattle.rdm_courses.specs.Notices.{notice_comes, entry_of}
use Rattle.rdm_responder.specs.History.{History, Noted, Placed, then_event}
use Rattle.rdm_responder.specs.Laws.{values_of}
use Rattle.rdm_responder.specs.Rules.{Account, is_muted}
use Rattle.rdm_responder.proofs.Accounts.{account_of-then}
use Rattle.rdm_search.specs.Line.{Fixture}
use Rattle.rdm_line.specs.Searching.{fixture_of}
use Rattle.rdm_widget.specs.declared.live_fixture.measuring.SensorCourse.{SensorCourse}
use Rattle.rdm_widget.specs.Measuring.{with_present, after_slots, after_answer, after_value, after_values, after_courses, after_notices}

muted_as : History → Bool → Fixture
muted_as h muted = record { uid = h.setup.uid; muted = muted }

placed_fixture : (h : History) (slots : List ℕ) → fixture_of (then_event h (Placed 0 0x0201 slots)) ≡ fixture_of h
unfolding muted_as
placed_fixture h slots = ap (λ (a : Account). muted_as h (is_muted a.mutings)) (account_of-then h (Placed 0 0x0201 slots))

noted_fixture : (b : Bool) (n : Notice) (h : History) → fixture_of (if b then then_event h (Noted (entry_of n)) else h) ≡ fixture_of h
unfolding muted_as
noted_fixture true n h = ap (λ (a : Account). muted_as h (is_muted a.mutings)) (account_of-then h (Noted (entry_of n)))
noted_fixture false n h = refl

slots_fixture : (o : Option PlaceError) (h : History) (slots : List ℕ) → fixture_of (after_slots o h slots) ≡ fixture_of h
slots_fixture None h slots = placed_fixture h slots
slots_fixture (Some e) h slots = refl

answer_fixture : (h : History) (number : ℕ) (v : ℤ) (w : Verdict) → fixture_of (after_answer h number v w) ≡ fixture_of h
answer_fixture h number v (verdict.Reply slots) = slots_fixture (place_refusal (values_of h) 0 0x0201 (with_present number v slots)) h (with_present number v slots)
answer_fixture h number v (verdict.Start work) = refl
answer_fixture h number v (verdict.Queue ask) = refl
answer_fixture h number v (verdict.Status ask) = refl
answer_fixture h number v verdict.Clear = refl
answer_fixture h number v (verdict.Refuse nack) = refl

values_fixture : (number : ℕ) (vs : List ℤ) (h : History) → fixture_of (after_values number vs h) ≡ fixture_of h
values_fixture number [] h = refl
values_fixture number (v ∷ vs) h =
    values_fixture number vs (after_value h number v) ∙ answer_fixture h number v (got (values_of h) 0 0x0201 (number ∷ []))

courses_fixture : (looked : Option ℕ) (now : ℕ) (cs : List SensorCourse) (h : History) → fixture_of (after_courses looked now cs h) ≡ fixture_of h
courses_fixture looked now [] h = refl
courses_fixture looked now (c ∷ cs) h =
    courses_fixture looked now cs (after_values c.sensor (shown_since c.course looked now) h) ∙ values_fixture c.sensor (shown_since c.course looked now) h

notices_fixture : (looked : Option ℕ) (now : ℕ) (ns : List Notice) (h : History) → fixture_of (after_notices looked now ns h) ≡ fixture_of h
notices_fixture looked now [] h = refl
notices_fixture looked now (n ∷ ns) h =
    notices_fixture looked now ns (if notice_comes n looked now then then_event h (Noted (entry_of n)) else h) ∙ noted_fixture (notice_comes n looked now) n h

pub come_fixture : (looked : Option ℕ) (now : ℕ) (ns : List Notice) (cs : List SensorCourse) (h : History)
    → fixture_of (after_notices looked now ns (after_courses looked now cs h)) ≡ fixture_of h
come_fixture looked now ns cs h =
    notices_fixture looked now ns (after_courses looked now cs h) ∙ courses_fixture looked now cs h
