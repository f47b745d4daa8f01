-- Which table of a sensor says what it shows over time. E1.20 section 10.7.2.
use Rattle.std.specs.Prelude.{◌≡◌, ℕ, ◌==◌, ◌<◌, Bool, true, false, not, ◌&&◌, ◌||◌, if◌then◌else◌, nat_le, nat_lt, IsTrue, List, [], ◌∷◌, length, map, slice_get, slice_index_or, Option, Some, None, codes}
use Rattle.std.specs.Option.{option_map_or}
use Rattle.std.specs.List.{list_all}
use Rattle.std.specs.Str.{bytes_eq}
use Rattle.toml.specs.Data.{Data, string, Members}
use Rattle.rdm_courses.specs.declared.course.Course.{Course}
use Rattle.rdm_courses.specs.declared.course.Point.{Point}
use Rattle.rdm_courses.specs.declared.course.Way.{Way}
use Rattle.rdm_courses.specs.declared.course.Way.TheVariants.{Steps, Ramp}
use Rattle.rdm_courses.specs.Courses.{no_course}
use Rattle.rdm_profile.specs.declared.profile.SensorDef.{SensorDef}
use Rattle.rdm_profile.specs.LeftOut.{leaves_out}
use Rattle.rdm_fixture_keys.specs.declared.refusal.Agreement.{Agreement}
use Rattle.rdm_fixture_keys.specs.declared.refusal.Agreement.TheVariants as agreements
use Rattle.rdm_fixture_keys.specs.declared.refusal.Wanted.TheVariants as wanted
use Rattle.rdm_fixture_keys.specs.Faults.{fault}
use Rattle.rdm_fixture_keys.specs.Keys.{Must, May, has_only}
use Rattle.rdm_fixture_keys.specs.Values.{number, signed, flag}
use Rattle.rdm_fixture_keys.specs.Wrong.{Part, FirstWrong, says_one, free}
use Rattle.rdm_fixture.specs.Lists.{OfTable, Lists}

-- ---- what the keys say

abbrev pub point_keys : List (List ℕ)
point_keys = codes "at" ∷ codes "value" ∷ []

-- a value, and when it is shown: in seconds since power-on
pub record IsPoint (t : Members) (p : Point) : Type 0 where
  pub keys : IsTrue (has_only point_keys t)
  pub at : Must t (codes "at") (number 0 0xFFFFFFFF) p.at
  pub value : Must t (codes "value") signed p.value

-- what is shown between points
abbrev pub way_named : List ℕ → Option Way
way_named s = if bytes_eq s (codes "steps") then Some Steps else (if bytes_eq s (codes "ramp") then Some Ramp else None)

abbrev pub way : Data → Option Way
way (string s) = way_named s
way _ = None

abbrev pub ArePoints : Members → List Point → Type 0
ArePoints t ps = Lists t (codes "over_time") (OfTable IsPoint) 0 16 ps

pub record SaysCourse (t : Members) (c : Course) : Type 0 where
  pub points : ArePoints t c.points.items
  pub way : May t (codes "course") Steps way c.way
  pub repeats : May t (codes "repeats") false flag c.repeats

-- ---- what has to hold of it

-- each point comes after the one before
abbrev pub rises : List Point → Bool
rises [] = true
rises (p ∷ []) = true
rises (p ∷ q ∷ ps) = nat_lt p.at q.at && rises (q ∷ ps)

-- a course that repeats has a round, which begins at 0 and ends with the last point
abbrev pub has_round : List Point → Bool
has_round ps = nat_le 2 (length ps) && option_map_or (λ p. p.at == 0) (slice_get ps 0) false

-- Why a course can't be that of a sensor which is answered at once, or isn't. Any other sensor is measured by jobs.
unfoldable pub misfit : Course → Bool → Option Agreement
misfit c at_once =
    if not (rises c.points.items) then Some agreements.Rising
    else (if c.repeats && not (has_round c.points.items) then Some agreements.Rounds
    else (if not at_once && not (length c.points.items == 0) then Some agreements.AtOnce else None))

-- the key that is wrong then
abbrev pub misfit_key : Agreement → List ℕ
misfit_key agreements.Rounds = codes "repeats"
misfit_key _ = codes "over_time"

-- What a sensor shows over time. One of which nothing is said shows what is placed or measured.
pub record IsCourse (t : Members) (c : Course) : Type 0 where
  pub said : SaysCourse t c
  pub at_once : Bool
  pub answered : May t (codes "answered_at_once") false flag at_once
  pub fits : misfit c at_once ≡ None

-- nothing is said of any sensor
abbrev pub no_courses : List SensorDef → List Course
no_courses sensors = map (λ s. no_course) sensors

-- each sensor, and no other, has a course that can be its own
pub record AreCourses (courses : List Course) (sensors : List SensorDef) : Type 0 where
  pub each : length courses ≡ length sensors
  pub fit : (i : ℕ) (c : Course) (s : SensorDef) → i < length courses → misfit (slice_index_or courses i c) (slice_index_or sensors i s).at_once ≡ None

-- what a sensor shows over time is told only by SENSOR_VALUE. Section 10.7.2.
abbrev pub can_run : List ℕ → List Course → Bool
can_run pids courses = not (leaves_out pids 0x0201) || list_all (λ c. length c.points.items == 0) courses

-- ---- what is looked at, part by part, in the order in which it is done

abbrev pub points_part : Part
points_part =
    says_one ArePoints (λ t f. ((ps : List Point) → ¬ ArePoints t ps) × (f ≡ fault (codes "over_time") (wanted.Agreement agreements.Points)))

abbrev pub said_parts : List Part
said_parts = points_part ∷ free (codes "course") way (wanted.Agreement agreements.Way) ∷ free (codes "repeats") flag wanted.Boolean ∷ []

abbrev pub fitting : Part
fitting =
    says_one IsCourse
    (λ t f. (c : Course) × (b : Bool) × (why : Agreement) × SaysCourse t c × May t (codes "answered_at_once") false flag b × (misfit c b ≡ Some why)
    × (f ≡ fault (misfit_key why) (wanted.Agreement why)))

abbrev pub course_parts : List Part
course_parts = says_one SaysCourse (FirstWrong said_parts) ∷ free (codes "answered_at_once") flag wanted.Boolean ∷ fitting ∷ []
