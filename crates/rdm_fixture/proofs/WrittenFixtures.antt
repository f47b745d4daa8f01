-- What is written of a whole fixture, and of its UID and its languages.
use Rattle.std.proofs.Common.{◌≡◌, ℕ, ◌+◌, ◌≤◌, ◌<◌, min, pos, false, List, [], ◌∷◌, ◌++◌, length, map, get_or, take, Option, Some, None, IsTrue, Bool, true, not, option_map, option_and_then, refl, sym, ap, ◌∙◌, arith, codes}
use Rattle.std.proofs.lemmas.List.{take_more, length-map}
use Rattle.rdm_frame.specs.declared.uid.Uid.{Uid}
use Rattle.rdm_frame.specs.Addressing.{is_broadcast}
use Rattle.rdm_frame.specs.FrameText.{IsUid}
use Rattle.rdm_frame.specs.UidText.{uid_text}
use Rattle.rdm_profile.specs.Modes.{shape_of}
use Rattle.rdm_profile.specs.MuteReply.{can_bind}
use Rattle.rdm_frame.proofs.NumberSpellings.{uid_spelled, uid_written}
use Rattle.toml.specs.Data.{Data, string, integer, table, Members, get_member}
use Rattle.toml.specs.View.{view, items_view}
use Rattle.toml.specs.declared.value.Value.{Value}
use Rattle.rdm_fixture.specs.declared.fixture.Fixture.{Fixture}
use Rattle.rdm_fixture.specs.Describable.{CanBeDescribed}
use Rattle.rdm_fixture_keys.specs.Entries.{IsSlot, IsSensor, IsSelfTest, IsStatus, IsChoice}
use Rattle.rdm_fixture.specs.Format.{IsFixture, IsUnit, IsLocking, SubDevices, EstimatesAt, WorkersAt, LanguagesAt, slot_count, root_slots, parameter_named, root_keys, fixture_keys}
use Rattle.rdm_fixture_keys.specs.Keys.{may, must, has_only}
use Rattle.rdm_fixture.specs.Lists.{EachIs, ListAt, OfTable}
use Rattle.rdm_fixture.specs.Outcomes.{IsOutcome}
use Rattle.rdm_fixture.specs.Parameters.{IsParameter}
use Rattle.rdm_fixture.specs.Notices.{IsNotice}
use Rattle.rdm_fixture.specs.OverTime.{IsCourse}
use Rattle.rdm_fixture.specs.OwnSlots.{IsMode}
use Rattle.rdm_fixture.specs.Starting.{IsCounted, SaysPresent}
use Rattle.rdm_fixture_keys.specs.Values.{flag, number, text, uid, own_uid, only_uid, language}
use Rattle.rdm_fixture.specs.Writing.{with_field, with_mute_reply, text_field, flag_field, uid_field, locking_of, IsPlain}
use Rattle.rdm_fixture.proofs.Fields.{Field, members_on, find_on, or_else, get_on, only_on, absent, plain_on}
use Rattle.rdm_fixture.proofs.ListEntries.{EachIs-last, slot_count-of}
use Rattle.rdm_fixture.proofs.Locks.{locks_written, locks_again, map_count}
use Rattle.rdm_fixture.proofs.Made.{all_slots}
use Rattle.rdm_fixture.proofs.Said.{number_says, flag_says, number_plain, text_plain, flag_field_plain, uid_field_plain, option_plain}
use Rattle.rdm_fixture.proofs.WrittenEntries.{says_long, says_text}
use Rattle.rdm_fixture.proofs.WrittenUnits.{kept, unit_kept, wider}

-- ---- the UID

own_again : (u : Uid) → is_broadcast u ≡ false → own_uid u ≡ Some u
own_again u own = rw own refl

not_true : (b : Bool) → not b ≡ true → b ≡ false
not_true true h = absurd (cc)
not_true false h = refl

pub uid_says : (u : Uid) → IsUid u → is_broadcast u ≡ false → uid (string (uid_text u)) ≡ Some u
uid_says u fits own = ap (option_and_then own_uid) ((uid_spelled (uid_text u) u).1 (uid_written u fits)) ∙ own_again u own

-- the same of one that may be missing
pub binding_says : (u : Uid) → IsUid u → IsTrue (can_bind (Some u)) → may None only_uid (uid_field (Some u)) ≡ Some (Some u)
binding_says u fits one = ap (option_map (λ v. Some v)) (uid_says u fits (not_true (is_broadcast u) one))

-- ---- the languages

pub code_more : (vs : List Value) (v : Value) (xs : List ℕ) (i : ℕ) → i < length xs
    → EachIs (λ d x. language d ≡ Some x) (items_view vs) (take i xs) → language (view v) ≡ Some (get_or xs i 0)
    → EachIs (λ d x. language d ≡ Some x) (items_view (vs ++ v ∷ [])) (take (i + 1) xs)
code_more vs v xs i less before is =
    rw (take_more xs i 0 less) (EachIs-last (λ d x. language d ≡ Some x) vs (take i xs) v (get_or xs i 0) before is)

-- ---- the whole

-- what nests at most n deep nests at most m deep
pub deeper : (n m : ℕ) (d : Data) → n ≤ m → IsPlain n d → IsPlain m d
deeper n m d less is = record { shallow = omega (arith, less, is.shallow); dates = is.dates }

pub deeper_some : (n m : ℕ) (o : Option Data) → n ≤ m → ((d : Data) → o ≡ Some d → IsPlain n d) → (d : Data) → o ≡ Some d → IsPlain m d
deeper_some n m o less is d e = deeper n m d less (is d e)

module _ (f : Fixture) (base : Members) (uid_data languages : Data) (slots sensors tests statuses lacks owns names locks outcomes subs times chosen messages own_slots : Option Data) where
  abbrev pub fixture_fields : List Field
  fixture_fields =
      (codes "mode", own_slots) ∷ (codes "status_message", messages) ∷ (codes "workers", chosen) ∷ (codes "estimates", times) ∷ (codes "sub_devices", subs) ∷ (codes "outcome", outcomes) ∷ (codes "lock", locks) ∷ (codes "choice", names) ∷ (codes "parameter", owns) ∷ (codes "without", lacks)
      ∷ (codes "status", statuses) ∷ (codes "self_test", tests) ∷ (codes "sensor", sensors) ∷ (codes "slot", slots)
      ∷ (codes "more_slots", Some (integer (pos f.profile.particulars.more_slots))) ∷ (codes "presets", Some (integer (pos f.profile.presets)))
      ∷ (codes "languages", Some languages) ∷ (codes "boot_software_version_label", text_field f.profile.boot_text)
      ∷ (codes "boot_software_version_id", Some (integer (pos f.profile.boot))) ∷ (codes "uid", Some uid_data)
      ∷ (codes "newest_only", flag_field f.profile.particulars.newest_only)
      ∷ (codes "proxied_device", flag_field f.profile.particulars.mute_reply.proxied_device) ∷ (codes "boot_loader", flag_field f.profile.particulars.mute_reply.boot_loader)
      ∷ (codes "binding_uid", uid_field f.profile.particulars.mute_reply.binding) ∷ []

  -- each table has one field more than the one before
  pub fixture_members : (muted newest t1 t2 t3 t4 t5 t6 t7 t8 t9 t10 t11 t12 t13 t14 t15 t16 t17 t18 t19 t20 : Members)
      → muted ≡ with_mute_reply f.profile.particulars.mute_reply base
      → newest ≡ with_field (codes "newest_only") (flag_field f.profile.particulars.newest_only) muted
      → t1 ≡ with_field (codes "uid") (Some uid_data) newest
      → t2 ≡ with_field (codes "boot_software_version_id") (Some (integer (pos f.profile.boot))) t1
      → t3 ≡ with_field (codes "boot_software_version_label") (text_field f.profile.boot_text) t2
      → t4 ≡ with_field (codes "languages") (Some languages) t3
      → t5 ≡ with_field (codes "presets") (Some (integer (pos f.profile.presets))) t4
      → t6 ≡ with_field (codes "more_slots") (Some (integer (pos f.profile.particulars.more_slots))) t5
      → t7 ≡ with_field (codes "slot") slots t6 → t8 ≡ with_field (codes "sensor") sensors t7
      → t9 ≡ with_field (codes "self_test") tests t8 → t10 ≡ with_field (codes "status") statuses t9
      → t11 ≡ with_field (codes "without") lacks t10 → t12 ≡ with_field (codes "parameter") owns t11
      → t13 ≡ with_field (codes "choice") names t12
      → t14 ≡ with_field (codes "lock") locks t13
      → t15 ≡ with_field (codes "outcome") outcomes t14 → t16 ≡ with_field (codes "sub_devices") subs t15
      → t17 ≡ with_field (codes "estimates") times t16 → t18 ≡ with_field (codes "workers") chosen t17
      → t19 ≡ with_field (codes "status_message") messages t18
      → t20 ≡ with_field (codes "mode") own_slots t19
      → t20 ≡ members_on base fixture_fields
  fixture_members muted newest t1 t2 t3 t4 t5 t6 t7 t8 t9 t10 t11 t12 t13 t14 t15 t16 t17 t18 t19 t20 is_muted is_newest e1 e2 e3 e4 e5 e6 e7 e8 e9 e10 e11 e12 e13 e14 e15 e16 e17 e18 e19 e20 =
      let at0 = is_newest ∙ ap (with_field (codes "newest_only") (flag_field f.profile.particulars.newest_only)) is_muted in
      let at1 = e1 ∙ ap (with_field (codes "uid") (Some uid_data)) at0 in
      let at2 = e2 ∙ ap (with_field (codes "boot_software_version_id") (Some (integer (pos f.profile.boot)))) at1 in
      let at3 = e3 ∙ ap (with_field (codes "boot_software_version_label") (text_field f.profile.boot_text)) at2 in
      let at4 = e4 ∙ ap (with_field (codes "languages") (Some languages)) at3 in
      let at5 = e5 ∙ ap (with_field (codes "presets") (Some (integer (pos f.profile.presets)))) at4 in
      let at6 = e6 ∙ ap (with_field (codes "more_slots") (Some (integer (pos f.profile.particulars.more_slots)))) at5 in
      let at7 = e7 ∙ ap (with_field (codes "slot") slots) at6 in
      let at8 = e8 ∙ ap (with_field (codes "sensor") sensors) at7 in
      let at9 = e9 ∙ ap (with_field (codes "self_test") tests) at8 in
      let at10 = e10 ∙ ap (with_field (codes "status") statuses) at9 in
      let at11 = e11 ∙ ap (with_field (codes "without") lacks) at10 in
      let at12 = e12 ∙ ap (with_field (codes "parameter") owns) at11 in
      let at13 = e13 ∙ ap (with_field (codes "choice") names) at12 in
      let at14 = e14 ∙ ap (with_field (codes "lock") locks) at13 in
      let at15 = e15 ∙ ap (with_field (codes "outcome") outcomes) at14 in
      let at16 = e16 ∙ ap (with_field (codes "sub_devices") subs) at15 in
      let at17 = e17 ∙ ap (with_field (codes "estimates") times) at16 in
      let at18 = e18 ∙ ap (with_field (codes "workers") chosen) at17 in
      let at19 = e19 ∙ ap (with_field (codes "status_message") messages) at18 in
      e20 ∙ ap (with_field (codes "mode") own_slots) at19

  or_absent : (o x : Option Data) → x ≡ None → or_else o x ≡ o
  or_absent None x none = none
  or_absent (Some d) x none = refl

  found : (key : List ℕ) (o : Option Data) → find_on base key fixture_fields ≡ or_else o (get_member key base) → get_member key base ≡ None
      → get_member key (members_on base fixture_fields) ≡ o
  found key o is none = get_on base key fixture_fields ∙ is ∙ or_absent o (get_member key base) none

  pub fixture_says : CanBeDescribed f → IsTrue (has_only root_keys base) → IsCounted base f.start → ((slots : ℕ) → slots ≡ min 512 (length f.profile.slots.items + f.profile.particulars.more_slots) → IsUnit slots base f.profile.root)
      → may None only_uid (uid_field f.profile.particulars.mute_reply.binding) ≡ Some f.profile.particulars.mute_reply.binding
      → uid uid_data ≡ Some f.uid → says_long f.profile.boot → says_text f.profile.boot_text
      → LanguagesAt (Some languages) f.profile.languages.items
      → ListAt (OfTable IsSlot) slots f.profile.slots.items → length f.profile.slots.items ≤ 46
      → ListAt (OfTable IsSensor) sensors f.profile.sensors.items → length f.profile.sensors.items ≤ 8
      → ListAt (OfTable SaysPresent) sensors f.start.presents.items
      → ListAt (OfTable IsCourse) sensors f.start.courses.items
      → ListAt (OfTable IsSelfTest) tests f.profile.tests.items → length f.profile.tests.items ≤ 8
      → ListAt (OfTable IsStatus) statuses f.profile.status_texts.items → length f.profile.status_texts.items ≤ 8
      → ListAt (λ d pid. parameter_named d ≡ Some pid) lacks f.profile.particulars.without.items → length f.profile.particulars.without.items ≤ 36
      → ListAt (OfTable IsParameter) owns f.profile.particulars.own → length f.profile.particulars.own ≤ 32
      → ListAt (OfTable IsChoice) names f.profile.particulars.choices → length f.profile.particulars.choices ≤ 64
      → ListAt (OfTable (λ t l. IsLocking t (locking_of l))) locks f.profile.particulars.locks → length f.profile.particulars.locks ≤ 64
      → ListAt (OfTable IsOutcome) outcomes f.outcomes.items → length f.outcomes.items ≤ 32
      → ((n : ℕ) (t : Members) → IsUnit n t f.profile.root → SubDevices n t subs f.profile.subs f.profile.sub)
      → EstimatesAt times f.profile.particulars.estimates → WorkersAt chosen f.profile.workers
      → ListAt (OfTable IsNotice) messages f.start.notices.items → length f.start.notices.items ≤ 16
      → ListAt (OfTable IsMode) own_slots f.profile.particulars.modes
      → IsFixture (members_on base fixture_fields) f
  fixture_says can only counted root bound own boot boot_text langs slot slot_fit sensor sensor_fit present course test test_fit status status_fit lacked lacked_fit added added_fit named named_fit lock lock_fit outcome outcome_fit sub time worker notice notice_fit mode =
      let fs = fixture_fields in
      let t = members_on base fs in
      let at_slot : get_member (codes "slot") t ≡ slots = found (codes "slot") slots refl (absent root_keys (codes "slot") base only refl) in
      let count : slot_count (get_member (codes "slot") t) ≡ length f.profile.slots.items =
      ap slot_count at_slot ∙ sym (slot_count-of (OfTable IsSlot) slots f.profile.slots.items slot) in
      let more : may 0 (number 0 512) (get_member (codes "more_slots") t) ≡ Some f.profile.particulars.more_slots =
      ap (may 0 (number 0 512)) (get_on base (codes "more_slots") fs) ∙ number_says 0 512 f.profile.particulars.more_slots (omega arith) can.slots in
      let all : root_slots t ≡ min 512 (length f.profile.slots.items + f.profile.particulars.more_slots) = all_slots _ _ _ _ more count in
      let unit : IsUnit (root_slots t) t f.profile.root =
      unit_kept base fs _ f.profile.root refl refl refl refl refl refl refl refl refl (root _ all) in
      let at_sub : get_member (codes "sub_devices") t ≡ subs = found (codes "sub_devices") subs refl (absent root_keys (codes "sub_devices") base only refl) in
      let good = can.made.1 in
      let few = good.presets in
      record {
        keys = only_on fixture_keys base fs
            (wider (codes "uid" ∷ codes "boot_software_version_id" ∷ codes "boot_software_version_label" ∷ codes "languages" ∷ codes "presets"
            ∷ codes "more_slots" ∷ codes "binding_uid" ∷ codes "boot_loader" ∷ codes "proxied_device" ∷ codes "newest_only"
            ∷ codes "slot" ∷ codes "mode" ∷ codes "sensor" ∷ codes "self_test" ∷ codes "status" ∷ codes "without" ∷ codes "parameter" ∷ codes "choice" ∷ codes "lock" ∷ codes "outcome"
            ∷ codes "sub_devices" ∷ codes "estimates" ∷ codes "workers" ∷ codes "status_message" ∷ []) root_keys base only) refl;
        said = record {
          own = ap (must uid) (get_on base (codes "uid") fs) ∙ own;
          profile = record {
            root = unit;
            sub = rw at_sub (sub _ t unit);
            boot = ap (may 0 (number 0 0xFFFFFFFF)) (get_on base (codes "boot_software_version_id") fs) ∙ boot;
            boot_text = ap (may [] text) (found (codes "boot_software_version_label") (text_field f.profile.boot_text) refl
                (absent root_keys (codes "boot_software_version_label") base only refl)) ∙ boot_text;
            languages = rw (get_on base (codes "languages") fs) langs;
            slots = record { items = rw at_slot slot; enough = omega arith; fit = slot_fit };
            sensors = record { items = rw (found (codes "sensor") sensors refl (absent root_keys (codes "sensor") base only refl)) sensor; enough = omega arith; fit = sensor_fit };
            tests = record { items = rw (found (codes "self_test") tests refl (absent root_keys (codes "self_test") base only refl)) test; enough = omega arith; fit = test_fit };
            tests_differ = good.tests_differ;
            statuses = record { items = rw (found (codes "status") statuses refl (absent root_keys (codes "status") base only refl)) status; enough = omega arith; fit = status_fit };
            statuses_differ = good.statuses_differ;
            presets = ap (may 0 (number 0 65534)) (get_on base (codes "presets") fs) ∙ number_says 0 65534 f.profile.presets (omega arith) (omega (arith, few));
            more_slots = more;
            without = record { items = rw (found (codes "without") lacks refl (absent root_keys (codes "without") base only refl)) lacked; enough = omega arith; fit = lacked_fit };
            may_lack = good.without;
            own = record { items = rw (found (codes "parameter") owns refl (absent root_keys (codes "parameter") base only refl)) added; enough = omega arith; fit = added_fit };
            own_ascend = good.own.ascending;
            choices = record { items = rw (found (codes "choice") names refl (absent root_keys (codes "choice") base only refl)) named; enough = omega arith; fit = named_fit };
            agree = good.own.agree;
            locks = record {
              states = map locking_of f.profile.particulars.locks;
              tables = record {
                items = rw (found (codes "lock") locks refl (absent root_keys (codes "lock") base only refl)) (locks_written locks f.profile.particulars.locks lock);
                enough = omega arith;
                fit = rw (map_count f.profile.particulars.locks) lock_fit;
              };
              locked = locks_again f.profile.particulars.locks;
              few = lock_fit;
            };
            states = good.locks.states;
            estimates = rw (found (codes "estimates") times refl (absent root_keys (codes "estimates") base only refl)) time;
            workers = rw (found (codes "workers") chosen refl (absent root_keys (codes "workers") base only refl)) worker;
            mute_reply = record {
              binding = ap (may None only_uid) (found (codes "binding_uid") (uid_field f.profile.particulars.mute_reply.binding) refl
                  (absent root_keys (codes "binding_uid") base only refl)) ∙ bound;
              boot_loader = ap (may false flag) (found (codes "boot_loader") (flag_field f.profile.particulars.mute_reply.boot_loader) refl
                  (absent root_keys (codes "boot_loader") base only refl)) ∙ flag_says _;
              proxied = ap (may false flag) (found (codes "proxied_device") (flag_field f.profile.particulars.mute_reply.proxied_device) refl
                  (absent root_keys (codes "proxied_device") base only refl)) ∙ flag_says _;
            };
            newest_only = ap (may false flag) (found (codes "newest_only") (flag_field f.profile.particulars.newest_only) refl
                (absent root_keys (codes "newest_only") base only refl)) ∙ flag_says _;
            modes = record {
              items = rw (found (codes "mode") own_slots refl (absent root_keys (codes "mode") base only refl)) mode;
              enough = omega arith;
              fit = let same = length-map f.profile.particulars.modes shape_of in let few = good.modes.count in omega (arith, same, few);
            };
            modes_agree = good.modes;
          };
          outcomes = record { items = rw (found (codes "outcome") outcomes refl (absent root_keys (codes "outcome") base only refl)) outcome; enough = omega arith; fit = outcome_fit };
          start = record {
            counted = record {
              device_hours = kept base fs (codes "device_hours") (may 0 (number 0 0xFFFFFFFF)) f.start.device_hours refl counted.device_hours;
              lamp_hours = kept base fs (codes "lamp_hours") (may 0 (number 0 0xFFFFFFFF)) f.start.lamp_hours refl counted.lamp_hours;
              lamp_strikes = kept base fs (codes "lamp_strikes") (may 0 (number 0 0xFFFFFFFF)) f.start.lamp_strikes refl counted.lamp_strikes;
              device_power_cycles = kept base fs (codes "device_power_cycles") (may 0 (number 0 0xFFFFFFFF)) f.start.device_power_cycles refl counted.device_power_cycles;
            };
            presents = record {
              items = rw (found (codes "sensor") sensors refl (absent root_keys (codes "sensor") base only refl)) present;
              enough = omega arith;
              fit = let same = can.presents in omega (arith, same, sensor_fit);
            };
            courses = record {
              items = rw (found (codes "sensor") sensors refl (absent root_keys (codes "sensor") base only refl)) course;
              enough = omega arith;
              fit = let same = can.courses.each in omega (arith, same, sensor_fit);
            };
            notices = record { items = rw (found (codes "status_message") messages refl (absent root_keys (codes "status_message") base only refl)) notice; enough = omega arith; fit = notice_fit };
          };
        };
        works = can.works;
      }

  pub fixture_plain : IsPlain 5 (table base) → IsPlain 4 uid_data → IsPlain 4 languages
      → ((d : Data) → slots ≡ Some d → IsPlain 4 d) → ((d : Data) → sensors ≡ Some d → IsPlain 4 d) → ((d : Data) → tests ≡ Some d → IsPlain 4 d)
      → ((d : Data) → statuses ≡ Some d → IsPlain 4 d) → ((d : Data) → lacks ≡ Some d → IsPlain 4 d) → ((d : Data) → owns ≡ Some d → IsPlain 4 d)
      → ((d : Data) → names ≡ Some d → IsPlain 4 d) → ((d : Data) → locks ≡ Some d → IsPlain 4 d)
      → ((d : Data) → outcomes ≡ Some d → IsPlain 4 d) → ((d : Data) → subs ≡ Some d → IsPlain 4 d) → ((d : Data) → times ≡ Some d → IsPlain 4 d)
      → ((d : Data) → chosen ≡ Some d → IsPlain 4 d) → ((d : Data) → messages ≡ Some d → IsPlain 4 d) → ((d : Data) → own_slots ≡ Some d → IsPlain 4 d)
      → IsPlain 5 (table (members_on base fixture_fields))
  fixture_plain rest is_uid is_languages is_slots is_sensors is_tests is_statuses is_lacks is_own is_named is_locks is_outcomes is_subs is_times is_chosen is_messages is_modes =
      plain_on 4 base fixture_fields rest
      (option_plain 4 (codes "mode") own_slots _ is_modes (option_plain 4 (codes "status_message") messages _ is_messages (option_plain 4 (codes "workers") chosen _ is_chosen (option_plain 4 (codes "estimates") times _ is_times (option_plain 4 (codes "sub_devices") subs _ is_subs (option_plain 4 (codes "outcome") outcomes _ is_outcomes
      (option_plain 4 (codes "lock") locks _ is_locks (option_plain 4 (codes "choice") names _ is_named (option_plain 4 (codes "parameter") owns _ is_own (option_plain 4 (codes "without") lacks _ is_lacks
      (option_plain 4 (codes "status") statuses _ is_statuses (option_plain 4 (codes "self_test") tests _ is_tests
      (option_plain 4 (codes "sensor") sensors _ is_sensors (option_plain 4 (codes "slot") slots _ is_slots (
        number_plain 4 _,
        (
          number_plain 4 _,
          (
            is_languages,
            text_plain 4 (codes "boot_software_version_label") f.profile.boot_text _ (
              number_plain 4 _,
              (
                is_uid,
                flag_field_plain 4 (codes "newest_only") f.profile.particulars.newest_only _ (flag_field_plain 4 (codes "proxied_device") f.profile.particulars.mute_reply.proxied_device _
                    (flag_field_plain 4 (codes "boot_loader") f.profile.particulars.mute_reply.boot_loader _ (uid_field_plain 4 (codes "binding_uid") f.profile.particulars.mute_reply.binding [] tt))),
              ),
            ),
          ),
        ),
      )))))))))))))))
