-- A table says one thing: two fixtures that it says are the same.
use Rattle.std.proofs.Common.{◌≡◌, ℕ, ℤ, Bool, List, [], ◌∷◌, Option, Some, None, refl, sym, ap, ◌∙◌, subst, codes}
use Rattle.std.proofs.lemmas.Option.{same_Some}
use Rattle.arrayvec.specs.declared.array_vec.ArrayVec.{ArrayVec}
use Rattle.rdm_frame.specs.declared.uid.Uid.{Uid}
use Rattle.rdm_courses.specs.declared.course.Course.{Course}
use Rattle.rdm_courses.specs.declared.course.Point.{Point}
use Rattle.rdm_courses.specs.declared.course.Way.{Way}
use Rattle.rdm_courses.specs.declared.notice.Notice.{Notice}
use Rattle.rdm_frame.specs.declared.status.Severity.{Severity}
use Rattle.rdm_profile.specs.declared.profile.choices.ChoiceName.{ChoiceName}
use Rattle.rdm_profile.specs.declared.profile.estimates.Estimates.{Estimates}
use Rattle.rdm_profile.specs.declared.profile.fields.Field.{Field}
use Rattle.rdm_profile.specs.declared.profile.fields.Width.{Width}
use Rattle.rdm_profile.specs.declared.profile.Personality.{Personality}
use Rattle.rdm_profile.specs.declared.profile.locks.Lock.{Lock}
use Rattle.rdm_profile.specs.declared.profile.mute_reply.MuteReply.{MuteReply}
use Rattle.rdm_profile.specs.declared.profile.modes.Mode.{Mode}
use Rattle.rdm_profile.specs.declared.profile.particulars.Particular.{Particular}
use Rattle.rdm_profile.specs.declared.profile.Profile.{Profile}
use Rattle.rdm_profile.specs.declared.profile.workers.Worker.{Worker}
use Rattle.rdm_profile.specs.declared.profile.workers.Workers.{Workers}
use Rattle.rdm_profile.specs.declared.profile.own.ParameterDef.{ParameterDef}
use Rattle.rdm_profile.specs.declared.profile.own.Rights.{Rights}
use Rattle.rdm_profile.specs.declared.profile.own.Shape.{Shape}
use Rattle.rdm_profile.specs.declared.profile.SelfTest.{SelfTest}
use Rattle.rdm_profile.specs.declared.profile.SensorDef.{SensorDef}
use Rattle.rdm_profile.specs.declared.profile.Slot.{Slot}
use Rattle.rdm_profile.specs.declared.profile.StatusText.{StatusText}
use Rattle.rdm_profile.specs.declared.profile.Unit.{Unit as DeviceUnit}
use Rattle.rdm_commands.specs.declared.jobs.outcome.Outcome.{Outcome}
use Rattle.rdm_outcomes.specs.declared.rule.Rule.{Rule}
use Rattle.rdm_outcomes.specs.declared.rule.Task.{Task}
use Rattle.toml.specs.Data.{Data, string, integer, float, boolean, datetime, array, table, no_items, item, Members, get_member}
use Rattle.rdm_fixture.specs.declared.fixture.Fixture.{Fixture}
use Rattle.rdm_fixture.specs.declared.profile.locks.Locking.{Locking}
use Rattle.rdm_fixture.specs.declared.starting.Starting.{Starting}
use Rattle.rdm_fixture.specs.Describes.{Describes}
use Rattle.rdm_fixture.specs.FirstWrong.{AreNamed, AreLocked}
use Rattle.rdm_fixture_keys.specs.Keys.{may, must}
use Rattle.rdm_fixture.specs.Lists.{OfTable, EachIs, ListAt, Lists}
use Rattle.rdm_fixture_keys.specs.Values.{flag, label_id, number, language}
use Rattle.rdm_fixture.specs.Parameters.{IsField, SaysParameter, IsParameter, greatest_said, low_in, high_in, start, is_setting}
use Rattle.rdm_fixture.specs.Notices.{IsNotice}
use Rattle.rdm_fixture.specs.OverTime.{IsPoint, SaysCourse, IsCourse}
use Rattle.rdm_fixture.specs.OwnSlots.{IsMode, AreModes}
use Rattle.rdm_fixture.specs.Starting.{SaysPresent, IsStarting}
use Rattle.rdm_fixture.specs.Outcomes.{IsOutcome}
use Rattle.rdm_fixture_keys.specs.Entries.{IsPersonality, IsSlot, IsSensor, IsSelfTest, IsStatus, IsChoice}
use Rattle.rdm_fixture.specs.Format.{IsUnit, SubDevices, IsEstimates, IsMuteReply, EstimatesAt, IsWorkers, WorkersAt, LanguagesAt, IsProfile, SaysFixture, IsFixture, parameter_named, IsLocking, AreLocks, all_locks, locked_pid}

-- what is said is one thing
abbrev pub SaysOne : {S A : Type 0} → (S → A → Type 0) → Type 0
SaysOne {S = S} {A = A} P = (s : S) (x y : A) → P s x → P s y → x ≡ y

pub one : {A : Type 0} {o : Option A} {x y : A} → o ≡ Some x → o ≡ Some y → x ≡ y
one p q = same_Some _ _ (sym p ∙ q)

-- ---- lists

one_of_table : {A : Type 0} (P : Members → A → Type 0) → SaysOne P → SaysOne (OfTable P)
one_of_table P single (table t) x y p q = single t x y p q
one_of_table P single (string s) x y p q = absurd p
one_of_table P single (integer z) x y p q = absurd p
one_of_table P single (float f) x y p q = absurd p
one_of_table P single (boolean b) x y p q = absurd p
one_of_table P single (datetime dt) x y p q = absurd p
one_of_table P single (array ds) x y p q = absurd p

one_each : {A : Type 0} (P : Data → A → Type 0) → SaysOne P → SaysOne (EachIs P)
one_each P single no_items [] [] p q = refl
one_each P single no_items [] (y ∷ ys) p q = absurd q
one_each P single no_items (x ∷ xs) ys p q = absurd p
one_each P single (item d ds) [] ys p q = absurd p
one_each P single (item d ds) (x ∷ xs) [] p q = absurd q
one_each P single (item d ds) (x ∷ xs) (y ∷ ys) p q =
    ap (λ z. z ∷ xs) (single d x y p.0 q.0) ∙ ap (λ zs. y ∷ zs) (one_each P single ds xs ys p.1 q.1)

one_at : {A : Type 0} (P : Data → A → Type 0) → SaysOne P → SaysOne (ListAt P)
one_at P single None x y p q = p ∙ sym q
one_at P single (Some (array ds)) x y p q = one_each P single ds x y p q
one_at P single (Some (table t)) x y p q = absurd p
one_at P single (Some (string s)) x y p q = absurd p
one_at P single (Some (integer z)) x y p q = absurd p
one_at P single (Some (float f)) x y p q = absurd p
one_at P single (Some (boolean b)) x y p q = absurd p
one_at P single (Some (datetime dt)) x y p q = absurd p

pub one_list : {A : Type 0} (t : Members) (key : List ℕ) (P : Members → A → Type 0) (least most : ℕ) (xs ys : List A)
    → SaysOne P → Lists t key (OfTable P) least most xs → Lists t key (OfTable P) least most ys → xs ≡ ys
one_list t key P least most xs ys single p q =
    one_at (OfTable P) (one_of_table P single) (get_member key t) xs ys p.items q.items

one_languages : (found : Option Data) (xs ys : List ℕ) → LanguagesAt found xs → LanguagesAt found ys → xs ≡ ys
one_languages None x y p q = p ∙ sym q
one_languages (Some (array ds)) x y p q = one_each (λ d z. language d ≡ Some z) (λ d a b. one) ds x y p.2 q.2
one_languages (Some (table t)) x y p q = absurd p
one_languages (Some (string s)) x y p q = absurd p
one_languages (Some (integer z)) x y p q = absurd p
one_languages (Some (float f)) x y p q = absurd p
one_languages (Some (boolean b)) x y p q = absurd p
one_languages (Some (datetime dt)) x y p q = absurd p

-- ---- the entries

abbrev pub listed : {A : Type 0} (n : ℕ) → List A → ArrayVec A n (Unit {0})
listed n xs = record { items = xs }

abbrev pub personality_of : ℕ → List ℕ → Personality
personality_of a0 a1 = record { footprint = a0; name = a1 }

pub same_personality : {a0 b0 : ℕ} {a1 b1 : List ℕ}
    → a0 ≡ b0 → a1 ≡ b1
    → personality_of a0 a1 ≡ personality_of b0 b1
same_personality e0 e1 = rw (e0, e1) refl

pub one_personality : (slots : ℕ) → SaysOne (IsPersonality slots)
one_personality slots t x y p q = same_personality (one p.footprint q.footprint) (one p.name q.name)

abbrev pub slot_of : ℕ → ℕ → ℕ → List ℕ → Slot
slot_of a0 a1 a2 a3 = record { kind = a0; label = a1; value = a2; name = a3 }

pub same_slot : {a0 b0 : ℕ} {a1 b1 : ℕ} {a2 b2 : ℕ} {a3 b3 : List ℕ}
    → a0 ≡ b0 → a1 ≡ b1 → a2 ≡ b2 → a3 ≡ b3
    → slot_of a0 a1 a2 a3 ≡ slot_of b0 b1 b2 b3
same_slot e0 e1 e2 e3 = rw (e0, e1, e2, e3) refl

pub one_slot : SaysOne IsSlot
one_slot t x y p q =
    let kind : x.kind ≡ y.kind = one p.kind q.kind in
    let label : must (label_id y.kind) (get_member (codes "label_id") t) ≡ Some x.label =
    subst (λ k. must (label_id k) (get_member (codes "label_id") t) ≡ Some x.label) kind p.label in
    same_slot kind (one label q.label) (one p.value q.value) (one p.name q.name)

abbrev mode_of : Personality → ℕ → List Slot → Mode
mode_of a0 a1 a2 = record { personality = a0; slots_of = a1; slots = a2 }

same_mode : {a0 b0 : Personality} {a1 b1 : ℕ} {a2 b2 : List Slot} → a0 ≡ b0 → a1 ≡ b1 → a2 ≡ b2 → mode_of a0 a1 a2 ≡ mode_of b0 b1 b2
same_mode e0 e1 e2 = rw (e0, e1, e2) refl

one_mode : SaysOne IsMode
one_mode t x y p q =
    same_mode (same_personality (one p.footprint q.footprint) (one p.name q.name)) (one p.slots_of q.slots_of)
    (one_list t _ IsSlot 0 46 _ _ one_slot p.slots q.slots)

pub one_modes : (t : Members) (xs ys : List Mode) → AreModes t xs → AreModes t ys → xs ≡ ys
one_modes t xs ys p q = one_list t _ IsMode 0 247 _ _ one_mode p q

abbrev pub sensor_of : ℕ → ℕ → ℕ → ℤ → ℤ → ℤ → ℤ → ℕ → List ℕ → Bool → SensorDef
sensor_of a0 a1 a2 a3 a4 a5 a6 a7 a8 a9 = record { kind = a0; unit = a1; prefix = a2; low = a3; high = a4; normal_low = a5; normal_high = a6; support = a7; name = a8; at_once = a9 }

pub same_sensor : {a0 b0 : ℕ} {a1 b1 : ℕ} {a2 b2 : ℕ} {a3 b3 : ℤ} {a4 b4 : ℤ} {a5 b5 : ℤ} {a6 b6 : ℤ} {a7 b7 : ℕ} {a8 b8 : List ℕ} {a9 b9 : Bool}
    → a0 ≡ b0 → a1 ≡ b1 → a2 ≡ b2 → a3 ≡ b3 → a4 ≡ b4 → a5 ≡ b5 → a6 ≡ b6 → a7 ≡ b7 → a8 ≡ b8 → a9 ≡ b9
    → sensor_of a0 a1 a2 a3 a4 a5 a6 a7 a8 a9 ≡ sensor_of b0 b1 b2 b3 b4 b5 b6 b7 b8 b9
same_sensor e0 e1 e2 e3 e4 e5 e6 e7 e8 e9 = rw (e0, e1, e2, e3, e4, e5, e6, e7, e8, e9) refl

pub one_sensor : SaysOne IsSensor
one_sensor t x y p q =
    same_sensor (one p.kind q.kind) (one p.unit q.unit) (one p.prefix q.prefix) (one p.low q.low) (one p.high q.high) (one p.normal_low q.normal_low) (one p.normal_high q.normal_high) (one p.support q.support) (one p.name q.name) (one p.at_once q.at_once)

abbrev pub self_test_of : ℕ → List ℕ → SelfTest
self_test_of a0 a1 = record { number = a0; name = a1 }

pub same_self_test : {a0 b0 : ℕ} {a1 b1 : List ℕ}
    → a0 ≡ b0 → a1 ≡ b1
    → self_test_of a0 a1 ≡ self_test_of b0 b1
same_self_test e0 e1 = rw (e0, e1) refl

pub one_self_test : SaysOne IsSelfTest
one_self_test t x y p q = same_self_test (one p.number q.number) (one p.name q.name)

abbrev pub status_of : ℕ → List ℕ → StatusText
status_of a0 a1 = record { id = a0; text = a1 }

pub same_status : {a0 b0 : ℕ} {a1 b1 : List ℕ}
    → a0 ≡ b0 → a1 ≡ b1
    → status_of a0 a1 ≡ status_of b0 b1
same_status e0 e1 = rw (e0, e1) refl

pub one_status : SaysOne IsStatus
one_status t x y p q = same_status (one p.id q.id) (one p.text q.text)

abbrev pub choice_of : ℕ → ℕ → ℕ → List ℕ → ChoiceName
choice_of a0 a1 a2 a3 = record { pid = a0; number = a1; hertz = a2; name = a3 }

same_choice : {a0 b0 : ℕ} {a1 b1 : ℕ} {a2 b2 : ℕ} {a3 b3 : List ℕ}
    → a0 ≡ b0 → a1 ≡ b1 → a2 ≡ b2 → a3 ≡ b3
    → choice_of a0 a1 a2 a3 ≡ choice_of b0 b1 b2 b3
same_choice e0 e1 e2 e3 = rw (e0, e1, e2, e3) refl

pub one_choice_name : SaysOne IsChoice
one_choice_name t x y p q = same_choice (one p.pid q.pid) (one p.number q.number) (one p.hertz q.hertz) (one p.name q.name)

abbrev pub field_of : Width → ℕ → ℕ → ℕ → Field
field_of a0 a1 a2 a3 = record { width = a0; low = a1; high = a2; also = a3 }

same_field : {a0 b0 : Width} {a1 b1 : ℕ} {a2 b2 : ℕ} {a3 b3 : ℕ}
    → a0 ≡ b0 → a1 ≡ b1 → a2 ≡ b2 → a3 ≡ b3
    → field_of a0 a1 a2 a3 ≡ field_of b0 b1 b2 b3
same_field e0 e1 e2 e3 = rw (e0, e1, e2, e3) refl

-- what is said where the default is the same
one_or : (found : Option Data) (m n x y : ℕ) → m ≡ n → may m (number 0 0xFFFFFFFF) found ≡ Some x → may n (number 0 0xFFFFFFFF) found ≡ Some y → x ≡ y
one_or found m n x y e p q = one (subst (λ (k : ℕ). may k (number 0 0xFFFFFFFF) found ≡ Some x) e p) q

pub one_field : SaysOne IsField
one_field t x y p q =
    let width : x.width ≡ y.width = one p.width q.width in
    let low : x.low ≡ y.low = one p.low q.low in
    same_field width low
    (one_or (get_member (codes "maximum_valid_value") t) (greatest_said x.width) (greatest_said y.width) x.high y.high (ap greatest_said width) p.high q.high)
    (one_or (get_member (codes "also_valid_value") t) x.low y.low x.also y.also low p.also q.also)

abbrev pub parameter_of : ℕ → Rights → Shape → ℤ → ℤ → ArrayVec Field 8 (Unit {0}) → List ℕ → ℕ → ℕ → List ℕ → Bool → ParameterDef
parameter_of a0 a1 a2 a3 a4 a5 a6 a7 a8 a9 a10 = record { pid = a0; rights = a1; shape = a2; low = a3; high = a4; fields = a5; start = a6; unit = a7; prefix = a8; name = a9; resets = a10 }

same_parameter : {a0 b0 : ℕ} {a1 b1 : Rights} {a2 b2 : Shape} {a3 b3 : ℤ} {a4 b4 : ℤ} {a5 b5 : ArrayVec Field 8 (Unit {0})} {a6 b6 : List ℕ} {a7 b7 : ℕ} {a8 b8 : ℕ} {a9 b9 : List ℕ} {a10 b10 : Bool}
    → a0 ≡ b0 → a1 ≡ b1 → a2 ≡ b2 → a3 ≡ b3 → a4 ≡ b4 → a5 ≡ b5 → a6 ≡ b6 → a7 ≡ b7 → a8 ≡ b8 → a9 ≡ b9 → a10 ≡ b10
    → parameter_of a0 a1 a2 a3 a4 a5 a6 a7 a8 a9 a10 ≡ parameter_of b0 b1 b2 b3 b4 b5 b6 b7 b8 b9 b10
same_parameter e0 e1 e2 e3 e4 e5 e6 e7 e8 e9 e10 = rw (e0, e1, e2, e3, e4, e5, e6, e7, e8, e9, e10) refl

-- what is said where the shape, the least and the greatest value are the same
one_low : (t : Members) (s r : Shape) (x y : ℤ) → s ≡ r → low_in s t ≡ Some x → low_in r t ≡ Some y → x ≡ y
one_low t s r x y e p q = one (subst (λ (k : Shape). low_in k t ≡ Some x) e p) q

one_high : (t : Members) (s r : Shape) (l m x y : ℤ) → s ≡ r → l ≡ m → high_in s l t ≡ Some x → high_in r m t ≡ Some y → x ≡ y
one_high t s r l m x y e f p q = one (subst (λ (k : ℤ). high_in r k t ≡ Some x) f (subst (λ (k : Shape). high_in k l t ≡ Some x) e p)) q

one_start : (found : Option Data) (s r : Shape) (l m h i : ℤ) (x y : List ℕ) → s ≡ r → l ≡ m → h ≡ i
    → must (start s l h) found ≡ Some x → must (start r m i) found ≡ Some y → x ≡ y
one_start found s r l m h i x y e f g p q =
    one (subst (λ (k : ℤ). must (start r m k) found ≡ Some x) g (subst (λ (k : ℤ). must (start r k h) found ≡ Some x) f (subst (λ (k : Shape). must (start k l h) found ≡ Some x) e p))) q

one_flag : (found : Option Data) (a b : Rights) (s r : Shape) (x y : Bool) → a ≡ b → s ≡ r
    → may (is_setting a s) flag found ≡ Some x → may (is_setting b r) flag found ≡ Some y → x ≡ y
one_flag found a b s r x y e f p q =
    one (subst (λ (k : Shape). may (is_setting b k) flag found ≡ Some x) f (subst (λ (k : Rights). may (is_setting k s) flag found ≡ Some x) e p)) q

pub one_said : SaysOne SaysParameter
one_said t x y p q =
    let rights : x.rights ≡ y.rights = one p.rights q.rights in
    let shape : x.shape ≡ y.shape = one p.shape q.shape in
    let low : x.low ≡ y.low = one_low t x.shape y.shape x.low y.low shape p.low q.low in
    let high : x.high ≡ y.high = one_high t x.shape y.shape x.low y.low x.high y.high shape low p.high q.high in
    let start : x.start ≡ y.start =
    one_start (get_member (codes "default_value") t) x.shape y.shape x.low y.low x.high y.high x.start y.start shape low high p.start q.start in
    let resets : x.resets ≡ y.resets = one_flag (get_member (codes "factory_defaults") t) x.rights y.rights x.shape y.shape x.resets y.resets rights shape p.resets q.resets in
    let fields : x.fields ≡ y.fields = ap (listed 8) (one_list t _ IsField 0 8 _ _ one_field p.fields q.fields) in
    same_parameter (one p.pid q.pid) rights shape low high fields start (one p.unit q.unit) (one p.prefix q.prefix) (one p.name q.name) resets

pub one_parameter : SaysOne IsParameter
one_parameter t x y p q = one_said t x y p.said q.said

pub one_names : (t : Members) (xs ys : List ℕ) → AreNamed t xs → AreNamed t ys → xs ≡ ys
one_names t xs ys p q = one_at (λ d pid. parameter_named d ≡ Some pid) (λ d a b. one) (get_member (codes "without") t) xs ys p.items q.items

-- ---- the locks

one_locked : (t : Members) (xs ys : List ℕ) → AreLocked t xs → AreLocked t ys → xs ≡ ys
one_locked t xs ys p q = one_at (λ d pid. locked_pid d ≡ Some pid) (λ d a b. one) (get_member (codes "parameters") t) xs ys p.items q.items

abbrev locking_from : ℕ → ArrayVec ℕ 64 (Unit {0}) → Locking
locking_from a0 a1 = record { state = a0; pids = a1 }

same_locking : {a0 b0 : ℕ} {a1 b1 : ArrayVec ℕ 64 (Unit {0})} → a0 ≡ b0 → a1 ≡ b1 → locking_from a0 a1 ≡ locking_from b0 b1
same_locking e0 e1 = rw (e0, e1) refl

pub one_locking : SaysOne IsLocking
one_locking t x y p q = same_locking (one p.state q.state) (ap (listed 64) (one_locked t _ _ p.parameters q.parameters))

pub one_locks : SaysOne AreLocks
one_locks t x y p q = p.locked ∙ ap all_locks (one_list t _ IsLocking 0 64 _ _ one_locking p.tables q.tables) ∙ sym q.locked

-- ---- the devices

abbrev pub unit_of : ℕ → ℕ → ℕ → List ℕ → List ℕ → List ℕ → List ℕ → ArrayVec Personality 8 (Unit {0}) → ℕ → DeviceUnit
unit_of a0 a1 a2 a3 a4 a5 a6 a7 a8 = record { model = a0; category = a1; software = a2; model_text = a3; maker_text = a4; label = a5; software_text = a6; personalities = a7; start = a8 }

pub same_unit : {a0 b0 : ℕ} {a1 b1 : ℕ} {a2 b2 : ℕ} {a3 b3 : List ℕ} {a4 b4 : List ℕ} {a5 b5 : List ℕ} {a6 b6 : List ℕ} {a7 b7 : ArrayVec Personality 8 (Unit {0})} {a8 b8 : ℕ}
    → a0 ≡ b0 → a1 ≡ b1 → a2 ≡ b2 → a3 ≡ b3 → a4 ≡ b4 → a5 ≡ b5 → a6 ≡ b6 → a7 ≡ b7 → a8 ≡ b8
    → unit_of a0 a1 a2 a3 a4 a5 a6 a7 a8 ≡ unit_of b0 b1 b2 b3 b4 b5 b6 b7 b8
same_unit e0 e1 e2 e3 e4 e5 e6 e7 e8 = rw (e0, e1, e2, e3, e4, e5, e6, e7, e8) refl

pub one_unit : (slots : ℕ) → SaysOne (IsUnit slots)
one_unit slots t x y p q =
    same_unit (one p.model q.model) (one p.category q.category) (one p.software q.software) (one p.model_text q.model_text) (one p.maker_text q.maker_text) (one p.label q.label) (one p.software_text q.software_text) (ap (listed 8) (one_list t _ (IsPersonality slots) 1 8 _ _ (one_personality slots) p.personalities q.personalities)) (one p.start q.start)

pub one_sub : (slots : ℕ) (t : Members) (found : Option Data) (m n : ℕ) (x y : DeviceUnit)
    → SubDevices slots t found m x → SubDevices slots t found n y → (m ≡ n) × (x ≡ y)
one_sub slots t None m n x y p q = (p.0 ∙ sym q.0, one_unit slots t x y p.1 q.1)
one_sub slots t (Some (table s)) m n x y p q = (one p.count q.count, one_unit 512 s x y p.unit q.unit)
one_sub slots t (Some (array ds)) m n x y p q = absurd p
one_sub slots t (Some (string s)) m n x y p q = absurd p
one_sub slots t (Some (integer z)) m n x y p q = absurd p
one_sub slots t (Some (float f)) m n x y p q = absurd p
one_sub slots t (Some (boolean b)) m n x y p q = absurd p
one_sub slots t (Some (datetime dt)) m n x y p q = absurd p

abbrev estimates_of : ℕ → ℕ → ℕ → ℕ → Estimates
estimates_of a0 a1 a2 a3 = record { lamp = a0; power = a1; self_test = a2; sensor = a3 }

same_estimates : {a0 b0 a1 b1 a2 b2 a3 b3 : ℕ} → a0 ≡ b0 → a1 ≡ b1 → a2 ≡ b2 → a3 ≡ b3 → estimates_of a0 a1 a2 a3 ≡ estimates_of b0 b1 b2 b3
same_estimates e0 e1 e2 e3 = rw (e0, e1, e2, e3) refl

pub one_estimates : SaysOne IsEstimates
one_estimates t x y p q = same_estimates (one p.lamp q.lamp) (one p.power q.power) (one p.self_test q.self_test) (one p.sensor q.sensor)

one_times : (found : Option Data) (x y : Estimates) → EstimatesAt found x → EstimatesAt found y → x ≡ y
one_times None x y p q = p ∙ sym q
one_times (Some (table t)) x y p q = one_estimates t x y p q
one_times (Some (array ds)) x y p q = absurd p
one_times (Some (string s)) x y p q = absurd p
one_times (Some (integer z)) x y p q = absurd p
one_times (Some (float f)) x y p q = absurd p
one_times (Some (boolean b)) x y p q = absurd p
one_times (Some (datetime dt)) x y p q = absurd p

abbrev workers_of : Worker → Worker → Worker → Worker → Workers
workers_of a0 a1 a2 a3 = record { lamp = a0; power = a1; self_test = a2; sensor = a3 }

same_workers : {a0 b0 a1 b1 a2 b2 a3 b3 : Worker} → a0 ≡ b0 → a1 ≡ b1 → a2 ≡ b2 → a3 ≡ b3 → workers_of a0 a1 a2 a3 ≡ workers_of b0 b1 b2 b3
same_workers e0 e1 e2 e3 = rw (e0, e1, e2, e3) refl

pub one_workers : SaysOne IsWorkers
one_workers t x y p q = same_workers (one p.lamp q.lamp) (one p.power q.power) (one p.self_test q.self_test) (one p.sensor q.sensor)

one_choice : (found : Option Data) (x y : Workers) → WorkersAt found x → WorkersAt found y → x ≡ y
one_choice None x y p q = p ∙ sym q
one_choice (Some (table t)) x y p q = one_workers t x y p q
one_choice (Some (array ds)) x y p q = absurd p
one_choice (Some (string s)) x y p q = absurd p
one_choice (Some (integer z)) x y p q = absurd p
one_choice (Some (float f)) x y p q = absurd p
one_choice (Some (boolean b)) x y p q = absurd p
one_choice (Some (datetime dt)) x y p q = absurd p

abbrev mute_reply_of : Bool → Bool → Option Uid → MuteReply
mute_reply_of a0 a1 a2 = record { proxied_device = a0; boot_loader = a1; binding = a2 }

same_mute_reply : {a0 b0 a1 b1 : Bool} {a2 b2 : Option Uid} → a0 ≡ b0 → a1 ≡ b1 → a2 ≡ b2 → mute_reply_of a0 a1 a2 ≡ mute_reply_of b0 b1 b2
same_mute_reply e0 e1 e2 = rw (e0, e1, e2) refl

pub one_mute_reply : SaysOne IsMuteReply
one_mute_reply t x y p q = same_mute_reply (one p.proxied q.proxied) (one p.boot_loader q.boot_loader) (one p.binding q.binding)

abbrev particular_of : List ParameterDef → List ChoiceName → List Lock → ArrayVec ℕ 36 (Unit {0}) → ℕ → Estimates → MuteReply → Bool → List Mode → Particular
particular_of a0 a1 a2 a3 a4 a5 a6 a7 a8 =
    record { own = a0; choices = a1; locks = a2; without = a3; more_slots = a4; estimates = a5; mute_reply = a6; newest_only = a7; modes = a8 }

same_particular : {a0 b0 : List ParameterDef} {a1 b1 : List ChoiceName} {a2 b2 : List Lock} {a3 b3 : ArrayVec ℕ 36 (Unit {0})} {a4 b4 : ℕ} {a5 b5 : Estimates}
    {a6 b6 : MuteReply} {a7 b7 : Bool} {a8 b8 : List Mode}
    → a0 ≡ b0 → a1 ≡ b1 → a2 ≡ b2 → a3 ≡ b3 → a4 ≡ b4 → a5 ≡ b5 → a6 ≡ b6 → a7 ≡ b7 → a8 ≡ b8
    → particular_of a0 a1 a2 a3 a4 a5 a6 a7 a8 ≡ particular_of b0 b1 b2 b3 b4 b5 b6 b7 b8
same_particular e0 e1 e2 e3 e4 e5 e6 e7 e8 = rw (e0, e1, e2, e3, e4, e5, e6, e7, e8) refl

abbrev pub profile_of : DeviceUnit → DeviceUnit → ℕ → ℕ → List ℕ → ArrayVec ℕ 8 (Unit {0}) → ArrayVec Slot 46 (Unit {0}) → ArrayVec SensorDef 8 (Unit {0}) → ArrayVec SelfTest 8 (Unit {0}) → ArrayVec StatusText 8 (Unit {0}) → ℕ → Workers → Particular → Profile
profile_of a0 a1 a2 a3 a4 a5 a6 a7 a8 a9 a10 a11 a12 = record { root = a0; sub = a1; subs = a2; boot = a3; boot_text = a4; languages = a5; slots = a6; sensors = a7; tests = a8; status_texts = a9; presets = a10; workers = a11; particulars = a12 }

pub same_profile : {a0 b0 : DeviceUnit} {a1 b1 : DeviceUnit} {a2 b2 : ℕ} {a3 b3 : ℕ} {a4 b4 : List ℕ} {a5 b5 : ArrayVec ℕ 8 (Unit {0})} {a6 b6 : ArrayVec Slot 46 (Unit {0})} {a7 b7 : ArrayVec SensorDef 8 (Unit {0})} {a8 b8 : ArrayVec SelfTest 8 (Unit {0})} {a9 b9 : ArrayVec StatusText 8 (Unit {0})} {a10 b10 : ℕ} {a11 b11 : Workers} {a12 b12 : Particular}
    → a0 ≡ b0 → a1 ≡ b1 → a2 ≡ b2 → a3 ≡ b3 → a4 ≡ b4 → a5 ≡ b5 → a6 ≡ b6 → a7 ≡ b7 → a8 ≡ b8 → a9 ≡ b9 → a10 ≡ b10 → a11 ≡ b11 → a12 ≡ b12
    → profile_of a0 a1 a2 a3 a4 a5 a6 a7 a8 a9 a10 a11 a12 ≡ profile_of b0 b1 b2 b3 b4 b5 b6 b7 b8 b9 b10 b11 b12
same_profile e0 e1 e2 e3 e4 e5 e6 e7 e8 e9 e10 e11 e12 = rw (e0, e1, e2, e3, e4, e5, e6, e7, e8, e9, e10, e11, e12) refl

-- what sets it apart
one_particular : (t : Members) (x y : Profile) → IsProfile t x → IsProfile t y → x.particulars ≡ y.particulars
one_particular t x y p q =
    same_particular
    (one_list t _ IsParameter 0 32 _ _ one_parameter p.own q.own)
    (one_list t _ IsChoice 0 64 _ _ one_choice_name p.choices q.choices)
    (one_locks t _ _ p.locks q.locks)
    (ap (listed 36) (one_names t _ _ p.without q.without))
    (one p.more_slots q.more_slots)
    (one_times _ _ _ p.estimates q.estimates)
    (one_mute_reply t _ _ p.mute_reply q.mute_reply)
    (one p.newest_only q.newest_only)
    (one_modes t _ _ p.modes q.modes)

pub one_profile : SaysOne IsProfile
one_profile t x y p q =
    let subs : (x.subs ≡ y.subs) × (x.sub ≡ y.sub) = one_sub _ t _ _ _ _ _ p.sub q.sub in
    same_profile
    (one_unit _ t x.root y.root p.root q.root)
    subs.1
    subs.0
    (one p.boot q.boot)
    (one p.boot_text q.boot_text)
    (ap (listed 8) (one_languages _ _ _ p.languages q.languages))
    (ap (listed 46) (one_list t _ IsSlot 0 46 _ _ one_slot p.slots q.slots))
    (ap (listed 8) (one_list t _ IsSensor 0 8 _ _ one_sensor p.sensors q.sensors))
    (ap (listed 8) (one_list t _ IsSelfTest 0 8 _ _ one_self_test p.tests q.tests))
    (ap (listed 8) (one_list t _ IsStatus 0 8 _ _ one_status p.statuses q.statuses))
    (one p.presets q.presets)
    (one_choice _ _ _ p.workers q.workers)
    (one_particular t x y p q)

-- ---- the outcomes

abbrev pub rule_of : Task → Option ℕ → Option ℕ → Outcome → Rule
rule_of a0 a1 a2 a3 = record { task = a0; value = a1; turn = a2; outcome = a3 }

same_rule : {a0 b0 : Task} {a1 b1 : Option ℕ} {a2 b2 : Option ℕ} {a3 b3 : Outcome}
    → a0 ≡ b0 → a1 ≡ b1 → a2 ≡ b2 → a3 ≡ b3
    → rule_of a0 a1 a2 a3 ≡ rule_of b0 b1 b2 b3
same_rule e0 e1 e2 e3 = rw (e0, e1, e2, e3) refl

pub one_rule : SaysOne IsOutcome
one_rule t x y p q = same_rule (one p.task q.task) (one p.value q.value) (one p.turn q.turn) (one p.outcome q.outcome)

-- ---- the whole

abbrev pub starting_of : ℕ → ℕ → ℕ → ℕ → ArrayVec (Option ℤ) 8 (Unit {0}) → ArrayVec Course 8 (Unit {0}) → ArrayVec Notice 16 (Unit {0}) → Starting
starting_of a0 a1 a2 a3 a4 a5 a6 = record { device_hours = a0; lamp_hours = a1; lamp_strikes = a2; device_power_cycles = a3; presents = a4; courses = a5; notices = a6 }

pub same_starting : {a0 b0 a1 b1 a2 b2 a3 b3 : ℕ} {a4 b4 : ArrayVec (Option ℤ) 8 (Unit {0})} {a5 b5 : ArrayVec Course 8 (Unit {0})} {a6 b6 : ArrayVec Notice 16 (Unit {0})}
    → a0 ≡ b0 → a1 ≡ b1 → a2 ≡ b2 → a3 ≡ b3 → a4 ≡ b4 → a5 ≡ b5 → a6 ≡ b6
    → starting_of a0 a1 a2 a3 a4 a5 a6 ≡ starting_of b0 b1 b2 b3 b4 b5 b6
same_starting e0 e1 e2 e3 e4 e5 e6 = rw (e0, e1, e2, e3, e4, e5, e6) refl

one_present : SaysOne SaysPresent
one_present t x y p q = one p q

abbrev point_of : ℕ → ℤ → Point
point_of a0 a1 = record { at = a0; value = a1 }

same_point : {a0 b0 : ℕ} {a1 b1 : ℤ} → a0 ≡ b0 → a1 ≡ b1 → point_of a0 a1 ≡ point_of b0 b1
same_point e0 e1 = rw (e0, e1) refl

one_point : SaysOne IsPoint
one_point t x y p q = same_point (one p.at q.at) (one p.value q.value)

abbrev course_of : ArrayVec Point 16 (Unit {0}) → Way → Bool → Course
course_of a0 a1 a2 = record { points = a0; way = a1; repeats = a2 }

same_course : {a0 b0 : ArrayVec Point 16 (Unit {0})} {a1 b1 : Way} {a2 b2 : Bool} → a0 ≡ b0 → a1 ≡ b1 → a2 ≡ b2 → course_of a0 a1 a2 ≡ course_of b0 b1 b2
same_course e0 e1 e2 = rw (e0, e1, e2) refl

pub one_course_said : SaysOne SaysCourse
one_course_said t x y p q =
    same_course (ap (listed 16) (one_list t _ IsPoint 0 16 _ _ one_point p.points q.points)) (one p.way q.way) (one p.repeats q.repeats)

one_course : SaysOne IsCourse
one_course t x y p q = one_course_said t x y p.said q.said

abbrev notice_of : ℕ → Option ℕ → ℕ → Severity → ℕ → ℕ → ℕ → Notice
notice_of a0 a1 a2 a3 a4 a5 a6 = record { at = a0; every = a1; sub = a2; severity = a3; id = a4; v1 = a5; v2 = a6 }

same_notice : {a0 b0 : ℕ} {a1 b1 : Option ℕ} {a2 b2 : ℕ} {a3 b3 : Severity} {a4 b4 a5 b5 a6 b6 : ℕ}
    → a0 ≡ b0 → a1 ≡ b1 → a2 ≡ b2 → a3 ≡ b3 → a4 ≡ b4 → a5 ≡ b5 → a6 ≡ b6 → notice_of a0 a1 a2 a3 a4 a5 a6 ≡ notice_of b0 b1 b2 b3 b4 b5 b6
same_notice e0 e1 e2 e3 e4 e5 e6 = rw (e0, e1, e2, e3, e4, e5, e6) refl

one_notice : SaysOne IsNotice
one_notice t x y p q =
    same_notice (one p.at q.at) (one p.every q.every) (one p.sub q.sub) (one p.severity q.severity) (one p.id q.id) (one p.v1 q.v1) (one p.v2 q.v2)

pub one_starting : SaysOne IsStarting
one_starting t x y p q =
    same_starting (one p.counted.device_hours q.counted.device_hours) (one p.counted.lamp_hours q.counted.lamp_hours)
    (one p.counted.lamp_strikes q.counted.lamp_strikes) (one p.counted.device_power_cycles q.counted.device_power_cycles)
    (ap (listed 8) (one_list t _ SaysPresent 0 8 _ _ one_present p.presents q.presents))
    (ap (listed 8) (one_list t _ IsCourse 0 8 _ _ one_course p.courses q.courses))
    (ap (listed 16) (one_list t _ IsNotice 0 16 _ _ one_notice p.notices q.notices))

abbrev pub fixture_of : Uid → Profile → ArrayVec Rule 32 (Unit {0}) → Starting → Fixture
fixture_of a0 a1 a2 a3 = record { uid = a0; profile = a1; outcomes = a2; start = a3 }

pub same_fixture : {a0 b0 : Uid} {a1 b1 : Profile} {a2 b2 : ArrayVec Rule 32 (Unit {0})} {a3 b3 : Starting}
    → a0 ≡ b0 → a1 ≡ b1 → a2 ≡ b2 → a3 ≡ b3
    → fixture_of a0 a1 a2 a3 ≡ fixture_of b0 b1 b2 b3
same_fixture e0 e1 e2 e3 = rw (e0, e1, e2, e3) refl

pub one_said_fixture : SaysOne SaysFixture
one_said_fixture t x y p q =
    same_fixture (one p.own q.own) (one_profile t x.profile y.profile p.profile q.profile)
    (ap (listed 32) (one_list t _ IsOutcome 0 32 _ _ one_rule p.outcomes q.outcomes))
    (one_starting t x.start y.start p.start q.start)

one_fixture : SaysOne IsFixture
one_fixture t x y p q = one_said_fixture t x y p.said q.said

pub one_text : SaysOne Describes
one_text text x y p q =
    let Says : Members → Type 0 = λ t. IsFixture t x in
    one_fixture q.document x y (subst Says (one p.parsed q.parsed) p.fixture) q.fixture
