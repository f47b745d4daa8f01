-- Which fixtures a file can describe, condition by condition.
use Rattle.std.specs.Prelude.{◌≡◌, ℕ, ◌/◌, ◌%◌, ◌≤◌, Bool, true, false, ◌&&◌, IsTrue, List, length, Option, Some, None, All, nat_le, int_le}
use Rattle.std.specs.List.{list_all}
use Rattle.rdm_frame.specs.Addressing.{is_broadcast}
use Rattle.rdm_frame.specs.declared.status.Severity.{Severity}
use Rattle.rdm_frame.specs.declared.status.Severity.TheVariants.{Advisory, Warning, Error}
use Rattle.rdm_profile.specs.declared.profile.modes.Mode.{Mode}
use Rattle.rdm_profile.specs.declared.profile.Profile.{Profile}
use Rattle.rdm_profile.specs.declared.profile.Unit.{Unit as DeviceUnit}
use Rattle.rdm_profile.specs.declared.profile.own.ParameterDef.{ParameterDef}
use Rattle.rdm_profile.specs.declared.profile.own.Shape.{Shape}
use Rattle.rdm_profile.specs.declared.profile.own.Shape.TheVariants as shapes
use Rattle.rdm_profile.specs.Profiles.{CanBeMade}
use Rattle.rdm_commands.specs.declared.jobs.outcome.Outcome.{Outcome}
use Rattle.rdm_commands.specs.declared.jobs.outcome.Outcome.TheVariants.{Failed}
use Rattle.rdm_outcomes.specs.declared.rule.Rule.{Rule}
use Rattle.rdm_outcomes.specs.Outcomes.{suits}
use Rattle.rdm_fixture.specs.declared.fixture.Fixture.{Fixture}
use Rattle.rdm_courses.specs.declared.notice.Notice.{Notice}
use Rattle.rdm_fixture.specs.Notices.{comes_again}
use Rattle.rdm_fixture.specs.OverTime.{AreCourses}
use Rattle.rdm_fixture.specs.Parameters.{least_of, greatest_of, can_reset}
use Rattle.rdm_fixture_keys.specs.Values.{is_printable, is_letter}
use Rattle.rdm_fixture.specs.Working.{CanWork}

-- ---- texts

-- a text of a device can stand in a file: all its characters are printable
abbrev pub are_printable : List ℕ → Bool
are_printable = list_all is_printable

-- every text of the root or of a sub-device
pub record HasPrintableUnit (u : DeviceUnit) : Type 0 where
  pub model : IsTrue (are_printable u.model_text)
  pub maker : IsTrue (are_printable u.maker_text)
  pub label : IsTrue (are_printable u.label)
  pub software : IsTrue (are_printable u.software_text)
  pub personalities : All (λ m. IsTrue (are_printable m.name)) u.personalities.items

-- those of a personality that has slots of its own: what it is called, and what they are
abbrev pub is_printable_mode : Mode → Bool
is_printable_mode m = are_printable m.personality.name && list_all (λ s. are_printable s.name) m.slots

-- every text of the profile
pub record HasPrintableTexts (p : Profile) : Type 0 where
  pub boot : IsTrue (are_printable p.boot_text)
  pub root : HasPrintableUnit p.root
  pub sub : HasPrintableUnit p.sub
  pub slots : All (λ s. IsTrue (are_printable s.name)) p.slots.items
  pub sensors : All (λ s. IsTrue (are_printable s.name)) p.sensors.items
  pub tests : All (λ t. IsTrue (are_printable t.name)) p.tests.items
  pub statuses : All (λ s. IsTrue (are_printable s.text)) p.status_texts.items
  pub choices : All (λ c. IsTrue (are_printable c.name)) p.particulars.choices
  pub modes : All (λ m. IsTrue (is_printable_mode m)) p.particulars.modes

-- ---- parameters that the profile adds

-- data start with what can stand in a file: a text is printable, and all else is written in digits
abbrev pub can_stand : Shape → List ℕ → Bool
can_stand shapes.Text start = are_printable start
can_stand _ start = true

-- limits can stand in a file: the least isn't above the greatest, and both are numbers of the data, or 0 where these are none
abbrev pub limits_stand : ParameterDef → Bool
limits_stand d = int_le (least_of d.shape) d.low && (int_le d.low d.high && int_le d.high (greatest_of d.shape))

-- a parameter can stand in a file
abbrev pub is_sayable : ParameterDef → Bool
is_sayable d = limits_stand d && (can_stand d.shape d.start && (are_printable d.name && can_reset d))

-- ---- languages and outcomes

-- a language has a code of two small letters. Section 10.5.7.
abbrev pub is_coded : ℕ → Bool
is_coded language = is_letter (language / 256) && is_letter (language % 256)

-- a file counts jobs from 1
abbrev pub is_counted : Option ℕ → Bool
is_counted None = true
is_counted (Some turn) = nat_le 1 turn

-- a failure isn't told as over: its severity is one of the base forms of table A-4
abbrev pub is_base_form : Severity → Bool
is_base_form Advisory = true
is_base_form Warning = true
is_base_form Error = true
is_base_form _ = false

abbrev pub is_told : Outcome → Bool
is_told (Failed severity id v1 v2) = is_base_form severity
is_told _ = true

-- a rule can stand in a file
abbrev pub is_ruled : Rule → Bool
is_ruled r = is_counted r.turn && (suits r.task r.outcome && is_told r.outcome)

-- a status message can stand in a file
abbrev pub is_noticed : Notice → Bool
is_noticed n = comes_again n.every && (nat_le n.sub 512 && is_base_form n.severity)

-- ---- the whole

pub record CanBeDescribed (f : Fixture) : Type 0 where
  pub own : is_broadcast f.uid ≡ false
  pub made : CanBeMade f.profile
  pub slots : f.profile.particulars.more_slots ≤ 512
  pub parameters : All (λ d. IsTrue (is_sayable d)) f.profile.particulars.own
  pub texts : HasPrintableTexts f.profile
  pub languages : All (λ l. IsTrue (is_coded l)) f.profile.languages.items
  pub outcomes : All (λ r. IsTrue (is_ruled r)) f.outcomes.items
  pub presents : length f.start.presents.items ≡ length f.profile.sensors.items
  pub courses : AreCourses f.start.courses.items f.profile.sensors.items
  pub notices : All (λ n. IsTrue (is_noticed n)) f.start.notices.items
  pub works : CanWork f
