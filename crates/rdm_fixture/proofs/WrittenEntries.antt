-- What is written of the entries of lists.
use Rattle.std.proofs.Common.{◌≡◌, false, length, ℕ, ◌≤◌, ◌<◌, ℤ, pos, neg_ℤ, List, [], ◌∷◌, Option, Some, None, refl, sym, ap, ◌∙◌, subst, arith, codes}
use Rattle.rdm_courses.specs.declared.course.Course.{Course}
use Rattle.rdm_courses.specs.declared.course.Point.{Point}
use Rattle.rdm_courses.specs.declared.course.Way.TheVariants.{Steps}
use Rattle.rdm_profile.specs.declared.profile.choices.ChoiceName.{ChoiceName}
use Rattle.rdm_profile.specs.declared.profile.estimates.Estimates.{Estimates}
use Rattle.rdm_profile.specs.declared.profile.locks.Lock.{Lock}
use Rattle.rdm_profile.specs.declared.profile.Personality.{Personality}
use Rattle.rdm_profile.specs.declared.profile.SelfTest.{SelfTest}
use Rattle.rdm_profile.specs.declared.profile.SensorDef.{SensorDef}
use Rattle.rdm_profile.specs.declared.profile.Slot.{Slot}
use Rattle.rdm_profile.specs.declared.profile.StatusText.{StatusText}
use Rattle.rdm_profile.specs.declared.profile.workers.Worker.{Worker}
use Rattle.rdm_profile.specs.declared.profile.workers.Worker.TheVariants.{First, Second}
use Rattle.rdm_profile.specs.declared.profile.workers.Workers.{Workers}
use Rattle.rdm_profile.specs.Workers.{worker_number}
use Rattle.toml.specs.Data.{Data, integer, boolean, table, get_member}
use Rattle.rdm_fixture_keys.specs.Entries.{IsPersonality, IsSlot, IsSensor, IsSelfTest, IsStatus, IsChoice, personality_keys, slot_keys, sensor_keys, self_test_keys, status_keys, choice_keys}
use Rattle.rdm_fixture.specs.Format.{IsLocking, locked_pid, IsEstimates, IsWorkers, estimates_keys, workers_keys, locking_keys}
use Rattle.rdm_fixture_keys.specs.Keys.{may}
use Rattle.rdm_fixture.specs.Lists.{ListAt, OfTable}
use Rattle.rdm_fixture_keys.specs.Values.{flag, label_id, named, number, worker, signed, text}
use Rattle.rdm_standard_names.specs.declared.kind.NameKind.TheVariants.{Prefixes, Sensors, Slots, Units}
use Rattle.rdm_fixture.specs.OverTime.{IsPoint, IsCourse, point_keys, misfit, way}
use Rattle.rdm_fixture.specs.Starting.{measured, SaysPresent}
use Rattle.rdm_fixture.specs.Writing.{text_field, named_field, label_field, locking_of, IsPlain}
use Rattle.rdm_standard_names.specs.declared.kind.NameKind.{NameKind}
use Rattle.rdm_fixture.proofs.WrittenNames.{label_plain, named_plain}
use Rattle.rdm_fixture.proofs.Fields.{Field, members_from, get_from, only_from, plain_from}
use Rattle.rdm_fixture.proofs.Said.{number_says, must_say, may_say, may_text, or_none, number_plain, flag_plain, text_plain, option_plain}

-- ---- slots

abbrev pub slot_fields : Slot → List Field
slot_fields s =
    (codes "description", text_field s.name) ∷ (codes "default_value", Some (integer (pos s.value)))
    ∷ (codes "label_id", Some (label_field s.kind s.label)) ∷ (codes "type", Some (named_field Slots s.kind)) ∷ []

abbrev pub says_byte : ℕ → Type 0
says_byte n = number 0 0xFF (integer (pos n)) ≡ Some n

abbrev pub says_word : ℕ → Type 0
says_word n = number 0 0xFFFF (integer (pos n)) ≡ Some n

abbrev pub says_long : ℕ → Type 0
says_long n = number 0 0xFFFFFFFF (integer (pos n)) ≡ Some n

abbrev pub says_named : NameKind → ℕ → Type 0
says_named kind n = named kind (named_field kind n) ≡ Some n

abbrev pub says_signed : ℤ → Type 0
says_signed z = signed (integer z) ≡ Some z

abbrev pub says_text : List ℕ → Type 0
says_text s = may [] text (text_field s) ≡ Some s

pub slot_says : (s : Slot) → says_named Slots s.kind → label_id s.kind (label_field s.kind s.label) ≡ Some s.label → says_byte s.value → says_text s.name → IsSlot (members_from (slot_fields s)) s
slot_says s kind label value name = let fs = slot_fields s in record {
  keys = only_from slot_keys fs refl;
  kind = may_say (codes "type") fs 0 (named Slots) _ _ refl kind;
  label = must_say (codes "label_id") fs (label_id s.kind) _ _ refl label;
  value = may_say (codes "default_value") fs 0 (number 0 0xFF) _ _ refl value;
  name = may_text (codes "description") fs s.name refl name;
}

pub slot_plain : (s : Slot) → IsPlain 1 (table (members_from (slot_fields s)))
slot_plain s = plain_from 0 (slot_fields s) (text_plain 0 (codes "description") s.name _ (number_plain 0 _, (label_plain 0 s.kind s.label, (named_plain 0 Slots s.kind, tt))))

-- ---- points of a course

abbrev pub point_fields : Point → List Field
point_fields p = (codes "value", Some (integer p.value)) ∷ (codes "at", Some (integer (pos p.at))) ∷ []

pub point_says : (p : Point) → says_long p.at → says_signed p.value → IsPoint (members_from (point_fields p)) p
point_says p at value = let fs = point_fields p in record {
  keys = only_from point_keys fs refl;
  at = must_say (codes "at") fs (number 0 0xFFFFFFFF) _ _ refl at;
  value = must_say (codes "value") fs signed _ _ refl value;
}

pub point_plain : (p : Point) → IsPlain 1 (table (members_from (point_fields p)))
point_plain p = plain_from 0 (point_fields p) (number_plain 0 _, (number_plain 0 _, tt))

-- ---- sensors

module _ (s : SensorDef) (given over way_given again : Option Data) where
  abbrev pub sensor_fields : List Field
  sensor_fields =
      (codes "repeats", again) ∷ (codes "course", way_given) ∷ (codes "over_time", over)
      ∷ (codes "present", given) ∷ (codes "answered_at_once", Some (boolean s.at_once)) ∷ (codes "description", text_field s.name)
      ∷ (codes "recorded_value_support", Some (integer (pos s.support)))
      ∷ (codes "normal_maximum_value", Some (integer s.normal_high)) ∷ (codes "normal_minimum_value", Some (integer s.normal_low))
      ∷ (codes "range_maximum_value", Some (integer s.high)) ∷ (codes "range_minimum_value", Some (integer s.low))
      ∷ (codes "prefix", Some (named_field Prefixes s.prefix)) ∷ (codes "unit", Some (named_field Units s.unit))
      ∷ (codes "type", Some (named_field Sensors s.kind)) ∷ []

  pub present_says : (present : Option ℤ) → may None measured given ≡ Some present → SaysPresent (members_from sensor_fields) present
  present_says present is = ap (may None measured) (get_from (codes "present") sensor_fields ∙ or_none given) ∙ is

  pub course_says : (c : Course) → ListAt (OfTable IsPoint) over c.points.items → length c.points.items ≤ 16
      → may Steps way way_given ≡ Some c.way → may false flag again ≡ Some c.repeats → misfit c s.at_once ≡ None
      → IsCourse (members_from sensor_fields) c
  course_says c points few is repeated fits = record {
    said = record {
      points = record {
        items = subst (λ (o : Option Data). ListAt (OfTable IsPoint) o c.points.items) (sym (get_from (codes "over_time") sensor_fields ∙ or_none over)) points;
        enough = omega arith;
        fit = few;
      };
      way = ap (may Steps way) (get_from (codes "course") sensor_fields ∙ or_none way_given) ∙ is;
      repeats = ap (may false flag) (get_from (codes "repeats") sensor_fields ∙ or_none again) ∙ repeated;
    };
    at_once = s.at_once;
    answered = may_say (codes "answered_at_once") sensor_fields false flag _ _ refl refl;
    fits = fits;
  }

  pub sensor_says : says_named Sensors s.kind → says_named Units s.unit → says_named Prefixes s.prefix → says_signed s.low → says_signed s.high
      → says_signed s.normal_low → says_signed s.normal_high → says_byte s.support → says_text s.name → IsSensor (members_from sensor_fields) s
  sensor_says kind unit prefix low high normal_low normal_high support name = let fs = sensor_fields in record {
    keys = only_from sensor_keys fs refl;
    kind = must_say (codes "type") fs (named Sensors) _ _ refl kind;
    unit = may_say (codes "unit") fs 0 (named Units) _ _ refl unit;
    prefix = may_say (codes "prefix") fs 0 (named Prefixes) _ _ refl prefix;
    low = may_say (codes "range_minimum_value") fs (neg_ℤ (pos 32768)) signed _ _ refl low;
    high = may_say (codes "range_maximum_value") fs (pos 32767) signed _ _ refl high;
    normal_low = may_say (codes "normal_minimum_value") fs (neg_ℤ (pos 32768)) signed _ _ refl normal_low;
    normal_high = may_say (codes "normal_maximum_value") fs (pos 32767) signed _ _ refl normal_high;
    support = may_say (codes "recorded_value_support") fs 0 (number 0 0xFF) _ _ refl support;
    name = may_text (codes "description") fs s.name refl name;
    at_once = may_say (codes "answered_at_once") fs false flag _ _ refl refl;
  }

  pub sensor_plain : ((d : Data) → given ≡ Some d → IsPlain 2 d) → ((d : Data) → over ≡ Some d → IsPlain 2 d) → ((d : Data) → way_given ≡ Some d → IsPlain 2 d)
      → ((d : Data) → again ≡ Some d → IsPlain 2 d) → IsPlain 3 (table (members_from sensor_fields))
  sensor_plain is is_over is_way is_again =
      plain_from 2 sensor_fields
      (option_plain 2 (codes "repeats") again _ is_again (option_plain 2 (codes "course") way_given _ is_way (option_plain 2 (codes "over_time") over _ is_over
      (option_plain 2 (codes "present") given _ is (flag_plain 2 _, text_plain 2 (codes "description") s.name _ (number_plain 2 _, (number_plain 2 _, (number_plain 2 _, (number_plain 2 _, (number_plain 2 _, (named_plain 2 Prefixes s.prefix, (named_plain 2 Units s.unit, (named_plain 2 Sensors s.kind, tt)))))))))))))

-- ---- names of choices

abbrev pub choice_fields : ChoiceName → List Field
choice_fields c =
    (codes "description", text_field c.name) ∷ (codes "hertz", Some (integer (pos c.hertz)))
    ∷ (codes "number", Some (integer (pos c.number))) ∷ (codes "pid", Some (integer (pos c.pid))) ∷ []

-- a number of 8 bits that isn't 0
from_one : (n : ℕ) → 1 ≤ n → n ≤ 0xFF → number 1 0xFF (integer (pos n)) ≡ Some n
from_one n low high = number_says 1 0xFF n low high

pub choice_says : (c : ChoiceName) → 1 ≤ c.number → c.number ≤ 0xFF → says_word c.pid → says_long c.hertz → says_text c.name
    → IsChoice (members_from (choice_fields c)) c
choice_says c low high pid hertz name = let fs = choice_fields c in record {
  keys = only_from choice_keys fs refl;
  pid = must_say (codes "pid") fs (number 0 0xFFFF) _ _ refl pid;
  number = must_say (codes "number") fs (number 1 0xFF) _ _ refl (from_one c.number low high);
  hertz = may_say (codes "hertz") fs 0 (number 0 0xFFFFFFFF) _ _ refl hertz;
  name = may_text (codes "description") fs c.name refl name;
}

pub choice_plain : (c : ChoiceName) → IsPlain 1 (table (members_from (choice_fields c)))
choice_plain c = plain_from 0 (choice_fields c) (text_plain 0 (codes "description") c.name _ (number_plain 0 _, (number_plain 0 _, (number_plain 0 _, tt))))

-- ---- locks

abbrev pub lock_fields : ℕ → Data → List Field
lock_fields state pids = (codes "parameters", Some pids) ∷ (codes "state", Some (integer (pos state))) ∷ []

-- a list at its key
listed_at : (l : Lock) (fs : List Field) (pids : Data) → get_member (codes "parameters") (members_from fs) ≡ Some pids
    → ListAt (λ d p. locked_pid d ≡ Some p) (Some pids) (l.pid ∷ []) → ListAt (λ d p. locked_pid d ≡ Some p) (get_member (codes "parameters") (members_from fs)) (l.pid ∷ [])
listed_at l fs pids at listed = subst (λ (o : Option Data). ListAt (λ d p. locked_pid d ≡ Some p) o (l.pid ∷ [])) (sym at) listed

pub lock_says : (l : Lock) (pids : Data) → 1 ≤ l.state → l.state ≤ 0xFF → ListAt (λ d p. locked_pid d ≡ Some p) (Some pids) (l.pid ∷ [])
    → IsLocking (members_from (lock_fields l.state pids)) (locking_of l)
lock_says l pids low high listed = let fs = lock_fields l.state pids in record {
  keys = only_from locking_keys fs refl;
  state = must_say (codes "state") fs (number 1 0xFF) _ _ refl (from_one l.state low high);
  parameters = record { items = listed_at l fs pids (get_from (codes "parameters") fs) listed; enough = omega arith; fit = omega arith };
}

pub lock_plain : (state : ℕ) (pids : Data) → IsPlain 1 pids → IsPlain 2 (table (members_from (lock_fields state pids)))
lock_plain state pids is = plain_from 1 (lock_fields state pids) (is, (number_plain 1 _, tt))

-- ---- entries with a number and a text

abbrev pub pair_fields : List ℕ → ℕ → List ℕ → List Field
pair_fields key n s = (codes "description", text_field s) ∷ (key, Some (integer (pos n))) ∷ []

pub pair_plain : (key : List ℕ) (n : ℕ) (s : List ℕ) → IsPlain 1 (table (members_from (pair_fields key n s)))
pair_plain key n s = plain_from 0 (pair_fields key n s) (text_plain 0 (codes "description") s _ (number_plain 0 _, tt))

pub personality_says : (slots : ℕ) (m : Personality) → m.footprint ≤ slots → says_text m.name
    → IsPersonality slots (members_from (pair_fields (codes "dmx_footprint") m.footprint m.name)) m
personality_says slots m footprint name = let fs = pair_fields (codes "dmx_footprint") m.footprint m.name in record {
  keys = only_from personality_keys fs refl;
  footprint = must_say (codes "dmx_footprint") fs (number 0 slots) _ _ refl (number_says 0 slots m.footprint (omega arith) footprint);
  name = may_text (codes "description") fs m.name refl name;
}

pub test_says : (s : SelfTest) → 0 < s.number → s.number < 255 → says_text s.name → IsSelfTest (members_from (pair_fields (codes "number") s.number s.name)) s
test_says s low high name = let fs = pair_fields (codes "number") s.number s.name in record {
  keys = only_from self_test_keys fs refl;
  number = must_say (codes "number") fs (number 1 254) _ _ refl (number_says 1 254 s.number (omega (arith, low)) (omega (arith, high)));
  name = may_text (codes "description") fs s.name refl name;
}

pub status_says : (s : StatusText) → says_word s.id → says_text s.text → IsStatus (members_from (pair_fields (codes "id") s.id s.text)) s
status_says s id name = let fs = pair_fields (codes "id") s.id s.text in record {
  keys = only_from status_keys fs refl;
  id = must_say (codes "id") fs (number 0 0xFFFF) _ _ refl id;
  text = may_text (codes "description") fs s.text refl name;
}

-- ---- the times of slow commands

abbrev pub estimates_fields : Estimates → List Field
estimates_fields e =
    (codes "sensor_value", Some (integer (pos e.sensor))) ∷ (codes "perform_selftest", Some (integer (pos e.self_test)))
    ∷ (codes "power_state", Some (integer (pos e.power))) ∷ (codes "lamp_state", Some (integer (pos e.lamp))) ∷ []

pub estimates_say : (e : Estimates) → says_word e.lamp → says_word e.power → says_word e.self_test → says_word e.sensor → IsEstimates (members_from (estimates_fields e)) e
estimates_say e lamp power self_test sensor = let fs = estimates_fields e in record {
  keys = only_from estimates_keys fs refl;
  lamp = may_say (codes "lamp_state") fs 50 (number 0 0xFFFF) _ _ refl lamp;
  power = may_say (codes "power_state") fs 20 (number 0 0xFFFF) _ _ refl power;
  self_test = may_say (codes "perform_selftest") fs 100 (number 0 0xFFFF) _ _ refl self_test;
  sensor = may_say (codes "sensor_value") fs 5 (number 0 0xFFFF) _ _ refl sensor;
}

pub estimates_plain : (e : Estimates) → IsPlain 1 (table (members_from (estimates_fields e)))
estimates_plain e = plain_from 0 (estimates_fields e) (number_plain 0 _, (number_plain 0 _, (number_plain 0 _, (number_plain 0 _, tt))))

-- ---- their workers

abbrev pub workers_fields : Workers → List Field
workers_fields ws =
    (codes "sensor_value", Some (integer (pos (worker_number ws.sensor)))) ∷ (codes "perform_selftest", Some (integer (pos (worker_number ws.self_test))))
    ∷ (codes "power_state", Some (integer (pos (worker_number ws.power)))) ∷ (codes "lamp_state", Some (integer (pos (worker_number ws.lamp)))) ∷ []

worker_says : (w : Worker) → worker (integer (pos (worker_number w))) ≡ Some w
worker_says First = refl
worker_says Second = refl

pub workers_say : (ws : Workers) → IsWorkers (members_from (workers_fields ws)) ws
workers_say ws = let fs = workers_fields ws in record {
  keys = only_from workers_keys fs refl;
  lamp = may_say (codes "lamp_state") fs First worker _ _ refl (worker_says ws.lamp);
  power = may_say (codes "power_state") fs First worker _ _ refl (worker_says ws.power);
  self_test = may_say (codes "perform_selftest") fs Second worker _ _ refl (worker_says ws.self_test);
  sensor = may_say (codes "sensor_value") fs Second worker _ _ refl (worker_says ws.sensor);
}

pub workers_plain : (ws : Workers) → IsPlain 1 (table (members_from (workers_fields ws)))
workers_plain ws = plain_from 0 (workers_fields ws) (number_plain 0 _, (number_plain 0 _, (number_plain 0 _, (number_plain 0 _, tt))))
