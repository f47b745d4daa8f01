-- Each fixture that a text describes is one that a file can describe.
use Rattle.std.proofs.Common.{◌≡◌, ℕ, ℤ, ◌+◌, ◌*◌, ◌/◌, ◌%◌, ◌≤◌, ◌<◌, Bool, true, false, ◌&&◌, if◌then◌else◌, List, [], ◌∷◌, length, slice_index_or, zero, suc, subst, Option, Some, None, option_map, option_and_then, All, IsTrue, refl, sym, ap, ◌∙◌, arith, codes}
use Rattle.std.proofs.lemmas.Bool.{and_parts, leb-true, le-leb}
use Rattle.std.proofs.lemmas.Option.{same_Some}
use Rattle.std.proofs.lemmas.List.Elements.{All-cons}
use Rattle.rdm_frame.specs.declared.uid.Uid.{Uid}
use Rattle.rdm_frame.specs.Addressing.{is_broadcast}
use Rattle.rdm_frame.specs.DigitReading.{uid_in}
use Rattle.rdm_frame.specs.declared.status.Severity.{Severity}
use Rattle.rdm_frame.specs.declared.status.Severity.TheVariants.{Advisory, Warning, Error}
use Rattle.rdm_courses.specs.declared.course.Course.{Course}
use Rattle.rdm_profile.specs.declared.profile.Profile.{Profile}
use Rattle.rdm_profile.specs.declared.profile.SensorDef.{SensorDef}
use Rattle.rdm_profile.specs.declared.profile.Unit.{Unit as DeviceUnit}
use Rattle.rdm_commands.specs.declared.jobs.outcome.Outcome.{Outcome}
use Rattle.rdm_commands.specs.declared.jobs.outcome.Outcome.TheVariants.{Reading}
use Rattle.rdm_outcomes.specs.declared.rule.Rule.{Rule}
use Rattle.toml.specs.Data.{Data, string, integer, float, boolean, datetime, array, table, Items, no_items, item, Members, get_member}
use Rattle.rdm_fixture.specs.declared.fixture.Fixture.{Fixture}
use Rattle.rdm_fixture_keys.specs.Values.{number, signed, uid, own_uid, language, language_in, is_letter}
use Rattle.rdm_fixture_keys.specs.Keys.{may, must}
use Rattle.rdm_fixture.specs.Lists.{OfTable, EachIs, ListAt}
use Rattle.rdm_fixture.specs.Outcomes.{IsOutcome, severity, only_number, done, failed, failed_in, outcome_at}
use Rattle.rdm_fixture.specs.Parameters.{IsParameter}
use Rattle.rdm_fixture_keys.specs.Entries.{IsPersonality, IsSlot, IsSensor, IsSelfTest, IsStatus, IsChoice}
use Rattle.rdm_fixture.specs.Format.{IsUnit, SubDevices, LanguagesAt, IsProfile, SaysFixture}
use Rattle.rdm_courses.specs.declared.notice.Notice.{Notice}
use Rattle.rdm_fixture.specs.Notices.{IsNotice, comes_again}
use Rattle.rdm_fixture.specs.OverTime.{IsCourse, AreCourses, misfit}
use Rattle.rdm_fixture.specs.OwnSlots.{IsMode}
use Rattle.rdm_fixture.specs.Starting.{SaysPresent}
use Rattle.rdm_fixture.specs.Working.{CanWork}
use Rattle.rdm_fixture.specs.Describes.{Describes}
use Rattle.rdm_fixture.specs.Describable.{are_printable, is_printable_mode, HasPrintableUnit, HasPrintableTexts, is_coded, is_counted, is_base_form, is_told, is_ruled, is_noticed, is_sayable, CanBeDescribed}
use Rattle.rdm_fixture.proofs.ListEntries.{slot_count-of}
use Rattle.rdm_fixture.proofs.Made.{made, number_range, may_most, all_said, all_at, of_table}
use Rattle.rdm_fixture.proofs.OneFixture.{one}
use Rattle.rdm_fixture.proofs.OwnSlots.{printable_mode}
use Rattle.rdm_fixture.proofs.Printables.{when, printable_at}
use Rattle.rdm_fixture.proofs.SaidParameters.{sayable}

-- ---- the UID

unless : (b : Bool) (v u : Uid) → (if b then None else Some v) ≡ Some u → (b ≡ false) × (v ≡ u)
unless true v u h = absurd (cc)
unless false v u h = (refl, same_Some _ _ h)

own_in : (r : Option Uid) (u : Uid) → option_and_then own_uid r ≡ Some u → is_broadcast u ≡ false
own_in None u h = absurd (cc)
own_in (Some v) u h = let (own, same) = unless (is_broadcast v) v u h in ap is_broadcast (sym same) ∙ own

own : (found : Option Data) (u : Uid) → must uid found ≡ Some u → is_broadcast u ≡ false
own None u h = absurd (cc)
own (Some (string s)) u h = own_in (uid_in s) u h
own (Some (integer z)) u h = absurd (cc)
own (Some (float f)) u h = absurd (cc)
own (Some (boolean b)) u h = absurd (cc)
own (Some (datetime dt)) u h = absurd (cc)
own (Some (array ds)) u h = absurd (cc)
own (Some (table t)) u h = absurd (cc)

-- ---- the texts

printable_unit : (slots : ℕ) (t : Members) (u : DeviceUnit) → IsUnit slots t u → HasPrintableUnit u
printable_unit slots t u h = record {
  model = printable_at t (codes "device_model_description") _ h.model_text;
  maker = printable_at t (codes "manufacturer_label") _ h.maker_text;
  label = printable_at t (codes "device_label") _ h.label;
  software = printable_at t (codes "software_version_label") _ h.software_text;
  personalities = all_at _ (λ m. IsTrue (are_printable m.name))
      (of_table (IsPersonality slots) (λ m. IsTrue (are_printable m.name)) (λ s m said. printable_at s (codes "description") _ said.name))
      (get_member (codes "personality") t) _ h.personalities.items;
}

printable_sub : (slots : ℕ) (t : Members) (found : Option Data) (n : ℕ) (u : DeviceUnit) → SubDevices slots t found n u → HasPrintableUnit u
printable_sub slots t None n u h = printable_unit slots t u h.1
printable_sub slots t (Some (table s)) n u h = printable_unit 512 s u h.unit
printable_sub slots t (Some (array ds)) n u h = absurd h
printable_sub slots t (Some (string s)) n u h = absurd h
printable_sub slots t (Some (integer z)) n u h = absurd h
printable_sub slots t (Some (float f)) n u h = absurd h
printable_sub slots t (Some (boolean b)) n u h = absurd h
printable_sub slots t (Some (datetime dt)) n u h = absurd h

printable_texts : (t : Members) (p : Profile) → IsProfile t p → HasPrintableTexts p
printable_texts t p h = record {
  boot = printable_at t (codes "boot_software_version_label") _ h.boot_text;
  root = printable_unit _ t p.root h.root;
  sub = printable_sub _ t (get_member (codes "sub_devices") t) _ _ h.sub;
  slots = all_at _ (λ s. IsTrue (are_printable s.name))
      (of_table IsSlot (λ s. IsTrue (are_printable s.name)) (λ m s said. printable_at m (codes "description") _ said.name))
      (get_member (codes "slot") t) _ h.slots.items;
  sensors = all_at _ (λ s. IsTrue (are_printable s.name))
      (of_table IsSensor (λ s. IsTrue (are_printable s.name)) (λ m s said. printable_at m (codes "description") _ said.name))
      (get_member (codes "sensor") t) _ h.sensors.items;
  tests = all_at _ (λ s. IsTrue (are_printable s.name))
      (of_table IsSelfTest (λ s. IsTrue (are_printable s.name)) (λ m s said. printable_at m (codes "description") _ said.name))
      (get_member (codes "self_test") t) _ h.tests.items;
  statuses = all_at _ (λ s. IsTrue (are_printable s.text))
      (of_table IsStatus (λ s. IsTrue (are_printable s.text)) (λ m s said. printable_at m (codes "description") _ said.text))
      (get_member (codes "status") t) _ h.statuses.items;
  choices = all_at _ (λ c. IsTrue (are_printable c.name))
      (of_table IsChoice (λ c. IsTrue (are_printable c.name)) (λ m c said. printable_at m (codes "description") _ said.name))
      (get_member (codes "choice") t) _ h.choices.items;
  modes = all_at _ (λ m. IsTrue (is_printable_mode m)) (of_table IsMode (λ m. IsTrue (is_printable_mode m)) printable_mode)
      (get_member (codes "mode") t) _ h.modes.items;
}

-- ---- the languages

first_of : (a b : ℕ) → b < 256 → (256 * a + b) / 256 ≡ a
first_of a b less = omega arith

second_of : (a b : ℕ) → b < 256 → (256 * a + b) % 256 ≡ b
second_of a b less = omega arith

coded_in : (s : List ℕ) (x : ℕ) → language_in s ≡ Some x → IsTrue (is_coded x)
coded_in [] x h = absurd (cc)
coded_in (a ∷ []) x h = absurd (cc)
coded_in (a ∷ b ∷ c ∷ s) x h = absurd (cc)
coded_in (a ∷ b ∷ []) x h =
    let (letters, same) = when (is_letter a && is_letter b) (256 * a + b) x h in
    let high : b ≤ 0x7A = leb-true b 0x7A (and_parts _ _ (and_parts _ _ letters).1).1 in
    let less : b < 256 = omega (arith, high) in
    ap is_coded (sym same) ∙ rw (first_of a b less, second_of a b less) letters

coded : (d : Data) (x : ℕ) → language d ≡ Some x → IsTrue (is_coded x)
coded (string s) x h = coded_in s x h
coded (integer z) x h = absurd (cc)
coded (float f) x h = absurd (cc)
coded (boolean b) x h = absurd (cc)
coded (datetime dt) x h = absurd (cc)
coded (array ds) x h = absurd (cc)
coded (table t) x h = absurd (cc)

all_coded : (found : Option Data) (xs : List ℕ) → LanguagesAt found xs → All (λ l. IsTrue (is_coded l)) xs
all_coded None xs h = rw h (All-cons (λ l. IsTrue (is_coded l)) 0x656E [] refl (λ k d less. absurd (omega arith)))
all_coded (Some (array ds)) xs h = all_said (λ d x. language d ≡ Some x) (λ l. IsTrue (is_coded l)) coded ds xs h.2
all_coded (Some (table t)) xs h = absurd h
all_coded (Some (string s)) xs h = absurd h
all_coded (Some (integer z)) xs h = absurd h
all_coded (Some (float f)) xs h = absurd h
all_coded (Some (boolean b)) xs h = absurd h
all_coded (Some (datetime dt)) xs h = absurd h

-- ---- the outcomes

counted_of : (o : Option ℕ) (turn : Option ℕ) → ((n : ℕ) → o ≡ Some n → 1 ≤ n) → option_map (λ n. Some n) o ≡ Some turn → IsTrue (is_counted turn)
counted_of None turn some h = absurd (cc)
counted_of (Some n) turn some h = ap is_counted (sym (same_Some _ _ h)) ∙ le-leb 1 n (some n refl)

counted : (found : Option Data) (turn : Option ℕ) → may None (only_number 1 0xFFFF) found ≡ Some turn → IsTrue (is_counted turn)
counted None turn h = ap is_counted (sym (same_Some _ _ h))
counted (Some d) turn h = counted_of (number 1 0xFFFF d) turn (λ n is. (number_range 1 0xFFFF d n is).0) h

base_of : (a b c : Bool) (x : Severity)
    → (if a then Some Advisory else (if b then Some Warning else (if c then Some Error else None))) ≡ Some x → IsTrue (is_base_form x)
base_of true b c x h = ap is_base_form (sym (same_Some _ _ h))
base_of false true c x h = ap is_base_form (sym (same_Some _ _ h))
base_of false false true x h = ap is_base_form (sym (same_Some _ _ h))
base_of false false false x h = absurd (cc)

base : (found : Option Data) (x : Severity) → must severity found ≡ Some x → IsTrue (is_base_form x)
base None x h = absurd (cc)
base (Some (string s)) x h = base_of _ _ _ x h
base (Some (integer z)) x h = absurd (cc)
base (Some (float f)) x h = absurd (cc)
base (Some (boolean b)) x h = absurd (cc)
base (Some (datetime dt)) x h = absurd (cc)
base (Some (array ds)) x h = absurd (cc)
base (Some (table t)) x h = absurd (cc)

told_failed : (s : Option Severity) (i v w : Option ℕ) (o : Outcome) → ((x : Severity) → s ≡ Some x → IsTrue (is_base_form x))
    → failed s i v w ≡ Some o → IsTrue (is_told o)
told_failed None i v w o base h = absurd (cc)
told_failed (Some x) None v w o base h = absurd (cc)
told_failed (Some x) (Some i) None w o base h = absurd (cc)
told_failed (Some x) (Some i) (Some v) None o base h = absurd (cc)
told_failed (Some x) (Some i) (Some v) (Some w) o base h = ap is_told (sym (same_Some _ _ h)) ∙ base x refl

told_reading : (z : Option ℤ) (o : Outcome) → option_map Reading z ≡ Some o → IsTrue (is_told o)
told_reading None o h = absurd (cc)
told_reading (Some z) o h = ap is_told (sym (same_Some _ _ h))

told_done : (d : Data) (o : Outcome) → done d ≡ Some o → IsTrue (is_told o)
told_done (boolean true) o h = ap is_told (sym (same_Some _ _ h))
told_done (boolean false) o h = absurd (cc)
told_done (string s) o h = absurd (cc)
told_done (integer z) o h = absurd (cc)
told_done (float f) o h = absurd (cc)
told_done (datetime dt) o h = absurd (cc)
told_done (array ds) o h = absurd (cc)
told_done (table t) o h = absurd (cc)

told : (d r : Option Data) (f : Option Outcome) (o : Outcome) → (f ≡ Some o → IsTrue (is_told o)) → outcome_at d r f ≡ Some o → IsTrue (is_told o)
told (Some d) r f o failure h = told_done d o h
told None (Some d) f o failure h = told_reading (signed d) o h
told None None f o failure h = failure h

and_both : (a b : Bool) → a ≡ true → b ≡ true → (a && b) ≡ true
and_both true b p q = q
and_both false b p q = p

ruled : (t : Members) (r : Rule) → IsOutcome t r → IsTrue (is_ruled r)
ruled t r h =
    let failure = told_failed (must severity (get_member (codes "severity") t)) _ _ _ r.outcome (base (get_member (codes "severity") t)) in
    and_both _ _ (counted (get_member (codes "job") t) r.turn h.turn)
    (and_both _ _ h.fits (told (get_member (codes "done") t) (get_member (codes "reading") t) (failed_in t) r.outcome failure h.outcome))

-- ---- status messages

again_of : (o : Option ℕ) (every : Option ℕ) → ((n : ℕ) → o ≡ Some n → 1 ≤ n) → option_map (λ n. Some n) o ≡ Some every → IsTrue (comes_again every)
again_of None every some h = absurd (cc)
again_of (Some n) every some h = ap comes_again (sym (same_Some _ _ h)) ∙ le-leb 1 n (some n refl)

again : (found : Option Data) (every : Option ℕ) → may None (only_number 1 0xFFFFFFFF) found ≡ Some every → IsTrue (comes_again every)
again None every h = ap comes_again (sym (same_Some _ _ h))
again (Some d) every h = again_of (number 1 0xFFFFFFFF d) every (λ n is. (number_range 1 0xFFFFFFFF d n is).0) h

noticed : (t : Members) (n : Notice) → IsNotice t n → IsTrue (is_noticed n)
noticed t n h =
    and_both _ _ (again (get_member (codes "every") t) n.every h.every)
    (and_both _ _ (le-leb n.sub 512 (may_most 0 512 (get_member (codes "sub_device") t) n.sub (omega arith) h.sub)) (base (get_member (codes "severity") t) n.severity h.severity))

-- ---- what sensors show over time

-- a course fits the sensor that the same table says
course_fits : (t : Members) (c : Course) (s : SensorDef) → IsCourse t c → IsSensor t s → misfit c s.at_once ≡ None
course_fits t c s course sensor = subst (λ (b : Bool). misfit c b ≡ None) (one course.answered sensor.at_once) course.fits

fit_of : (d : Data) (c : Course) (s : SensorDef) → OfTable IsCourse d c → OfTable IsSensor d s → misfit c s.at_once ≡ None
fit_of (table t) c s course sensor = course_fits t c s course sensor
fit_of (string x) c s course sensor = absurd course
fit_of (integer z) c s course sensor = absurd course
fit_of (float f) c s course sensor = absurd course
fit_of (boolean b) c s course sensor = absurd course
fit_of (datetime dt) c s course sensor = absurd course
fit_of (array ds) c s course sensor = absurd course

fits_more : (c : Course) (s : SensorDef) (cs : List Course) (ss : List SensorDef) → misfit c s.at_once ≡ None
    → ((i : ℕ) (d : Course) (e : SensorDef) → i < length cs → misfit (slice_index_or cs i d) (slice_index_or ss i e).at_once ≡ None)
    → (i : ℕ) (d : Course) (e : SensorDef) → i < suc (length cs) → misfit (slice_index_or (c ∷ cs) i d) (slice_index_or (s ∷ ss) i e).at_once ≡ None
fits_more c s cs ss first rest zero d e less = first
fits_more c s cs ss first rest (suc i) d e less = rest i d e (omega (arith, less))

each_fits : (ds : Items) (cs : List Course) (ss : List SensorDef) → EachIs (OfTable IsCourse) ds cs → EachIs (OfTable IsSensor) ds ss → AreCourses cs ss
each_fits no_items [] [] courses sensors = record { each = refl; fit = λ i c s less. absurd (omega (arith, less)) }
each_fits no_items (c ∷ cs) ss courses sensors = absurd courses
each_fits no_items [] (s ∷ ss) courses sensors = absurd sensors
each_fits (item d ds) [] ss courses sensors = absurd courses
each_fits (item d ds) (c ∷ cs) [] courses sensors = absurd sensors
each_fits (item d ds) (c ∷ cs) (s ∷ ss) courses sensors =
    let rest = each_fits ds cs ss courses.1 sensors.1 in
    record { each = ap suc rest.each; fit = fits_more c s cs ss (fit_of d c s courses.0 sensors.0) rest.fit }

courses_of : (found : Option Data) (cs : List Course) (ss : List SensorDef) → ListAt (OfTable IsCourse) found cs → ListAt (OfTable IsSensor) found ss → AreCourses cs ss
courses_of None cs ss courses sensors = rw (courses, sensors) (record { each = refl; fit = λ i c s less. absurd (omega (arith, less)) })
courses_of (Some (array ds)) cs ss courses sensors = each_fits ds cs ss courses sensors
courses_of (Some (table t)) cs ss courses sensors = absurd courses
courses_of (Some (string x)) cs ss courses sensors = absurd courses
courses_of (Some (integer z)) cs ss courses sensors = absurd courses
courses_of (Some (float f)) cs ss courses sensors = absurd courses
courses_of (Some (boolean b)) cs ss courses sensors = absurd courses
courses_of (Some (datetime dt)) cs ss courses sensors = absurd courses

-- ---- the whole

pub describable : (t : Members) (f : Fixture) → SaysFixture t f → CanWork f → CanBeDescribed f
describable t f said works = let profile = said.profile in record {
  own = own (get_member (codes "uid") t) f.uid said.own;
  made = made t f.profile profile works.opened works.held;
  slots = may_most 0 512 (get_member (codes "more_slots") t) _ (omega arith) profile.more_slots;
  parameters = all_at _ (λ d. IsTrue (is_sayable d)) (of_table IsParameter (λ d. IsTrue (is_sayable d)) sayable) (get_member (codes "parameter") t) _ profile.own.items;
  texts = printable_texts t f.profile profile;
  languages = all_coded (get_member (codes "languages") t) _ profile.languages;
  outcomes = all_at _ (λ r. IsTrue (is_ruled r)) (of_table IsOutcome (λ r. IsTrue (is_ruled r)) ruled) (get_member (codes "outcome") t) _ said.outcomes.items;
  presents = slot_count-of (OfTable SaysPresent) (get_member (codes "sensor") t) f.start.presents.items said.start.presents.items
      ∙ sym (slot_count-of (OfTable IsSensor) (get_member (codes "sensor") t) f.profile.sensors.items profile.sensors.items);
  courses = courses_of (get_member (codes "sensor") t) f.start.courses.items f.profile.sensors.items said.start.courses.items profile.sensors.items;
  notices = all_at _ (λ n. IsTrue (is_noticed n)) (of_table IsNotice (λ n. IsTrue (is_noticed n)) noticed) (get_member (codes "status_message") t) _ said.start.notices.items;
  works = works;
}

pub described : (text : List ℕ) (f : Fixture) → Describes text f → CanBeDescribed f
described text f h = describable h.document f h.fixture.said h.fixture.works
