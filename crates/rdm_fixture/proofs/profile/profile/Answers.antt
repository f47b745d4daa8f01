use Rattle.std.proofs.Common.{◌≡◌, ◌∙◌, false, ◌<◌, AllPairs, ℕ, List, [], ◌∷◌, ◌++◌, length, map, Some, inl, inr, subst, codes, rules}
use Rattle.rdm_profile.specs.declared.profile.choices.ChoiceName.{ChoiceName}
use Rattle.rdm_profile.specs.declared.profile.locks.Lock.{Lock}
use Rattle.rdm_profile.specs.declared.profile.own.ParameterDef.{ParameterDef}
use Rattle.rdm_profile.specs.declared.profile.Unit.{Unit as DeviceUnit}
use Rattle.rdm_profile.specs.Modes.{shape_of}
use Rattle.rdm_profile.specs.Profiles.{AreGoodModes, Agree, HaveStates}
use Rattle.toml.specs.Data.{Members, get_member}
use Rattle.toml.specs.View.{table_view}
use Rattle.rdm_fixture.specs.Drafts.{profile_with}
use Rattle.rdm_fixture_keys.specs.Faults.{told}
use Rattle.rdm_fixture_keys.specs.Entries.{self_test_parts, status_parts, IsSelfTest, IsStatus}
use Rattle.rdm_fixture.specs.FirstWrong.{profile_parts, unit_parts, differing, names, optional, unneeded, added_parts, AreAdded, times, choice, muting, newest, modes_agree}
use Rattle.rdm_fixture.specs.Format.{IsUnit, IsProfile, AreLocks, root_slots}
use Rattle.rdm_fixture_keys.specs.Keys.{may}
use Rattle.rdm_fixture.specs.OwnSlots.{modes_part}
use Rattle.rdm_fixture_keys.specs.Values.{flag, number, text}
use Rattle.rdm_fixture_keys.specs.Wrong.{Part, FirstWrong, AllRight}
use Rattle.rdm_fixture.specs.Lists.{entries}
use Rattle.rdm_fixture.proofs.BehindUnits.{as_read, not_behind, wrong_behind}
use Rattle.rdm_fixture.proofs.Made.{slots_counted}
use Rattle.rdm_fixture.proofs.OneFixture.{one_unit}
use Rattle.rdm_fixture_keys.proofs.Parts.{exit, free_right, among, behind}
use Rattle.rdm_fixture_keys.proofs.Readings.{Reads-err}
use Rattle.rdm_fixture.proofs.profile.profile.Goals as goal

abbrev tests_parts : List Part
tests_parts = entries (codes "self_test") IsSelfTest (FirstWrong self_test_parts) 0 8 ∷ differing (codes "self_test") (codes "number") IsSelfTest (λ a. a.number) ∷ []

abbrev statuses_parts : List Part
statuses_parts = entries (codes "status") IsStatus (FirstWrong status_parts) 0 8 ∷ differing (codes "status") (codes "id") IsStatus (λ a. a.id) ∷ []

abbrev without_parts : List Part
without_parts = names ∷ optional ∷ unneeded ∷ []

abbrev after_without : List Part
after_without = added_parts ++ (times ∷ choice ∷ muting ∷ newest ∷ modes_part ∷ modes_agree ∷ [])

abbrev after_statuses : List Part
after_statuses = without_parts ++ after_without

abbrev after_tests : List Part
after_tests = statuses_parts ++ after_statuses

-- all of these parts are right
all_added : (t : Members) (ds : List ParameterDef) (cs : List ChoiceName) (ls : List Lock)
    → AreAdded t ds cs × AllPairs (λ a b. a.pid < b.pid) ds × Agree ds cs × AreLocks t ls × HaveStates ds ls → AllRight added_parts t
all_added t ds cs ls h =
    ((ds, h.0.0), ((ds, (h.0.0, h.1)), ((cs, h.0.1), (((ds, cs), (h.0, h.2)), ((h.3.states, h.3.tables), ((ls, h.3), (((ds, ls), ((h.0.0, h.3), h.4)), tt)))))))

pub returns-in_err-slots-clause-read : goal.returns-in_err-slots-clause-read
returns-in_err-slots-clause-read c =
    Reads-err (λ t r. IsProfile t (profile_with r.0 r.1)) _ _ c.from_residual-in_err-slots.ensures.0 (λ r h. c.in_err-slots.ensures.read r.0.slots h.slots)

pub returns-in_err-root-clause-read : goal.returns-in_err-root-clause-read
returns-in_err-root-clause-read c =
    let more : Some c.in_ok-more_slots.more_slots ≡ may 0 (number 0 512) (get_member (codes "more_slots") (table_view c.args.table.now)) = c.in_ok-more_slots.ensures.value in
    let count : c.root_slots-count.result ≡ root_slots (table_view c.args.table.now) =
    c.root_slots-count.ensures ∙ slots_counted _ _ _ _ more (c.len.ensures.value ∙ c.in_ok-slots.ensures.count) in
    Reads-err (λ t r. IsProfile t (profile_with r.0 r.1)) _ _ c.from_residual-in_err-root.ensures.0 (λ r h. c.in_err-root.ensures.read r.0.root (rw count h.root))

pub returns-in_err-subs-clause-read : goal.returns-in_err-subs-clause-read
returns-in_err-subs-clause-read c =
    let more : Some c.in_ok-more_slots.more_slots ≡ may 0 (number 0 512) (get_member (codes "more_slots") (table_view c.args.table.now)) = c.in_ok-more_slots.ensures.value in
    let count : c.root_slots-count.result ≡ root_slots (table_view c.args.table.now) =
    c.root_slots-count.ensures ∙ slots_counted _ _ _ _ more (c.len.ensures.value ∙ c.in_ok-slots.ensures.count) in
    Reads-err (λ t r. IsProfile t (profile_with r.0 r.1)) _ _ c.from_residual-in_err-subs.ensures.0 (λ r h. c.in_err-subs.ensures.read (r.0.subs, r.0.sub) (rw count h.sub))

pub returns-in_err-without-clause-read : goal.returns-in_err-without-clause-read
returns-in_err-without-clause-read c =
    Reads-err (λ t r. IsProfile t (profile_with r.0 r.1)) _ _ c.from_residual-in_err-without.ensures.0 (λ r h. c.in_err-without.ensures.read r.1.without (h.without, h.may_lack))

pub returns-in_err-added-clause-read : goal.returns-in_err-added-clause-read
returns-in_err-added-clause-read c =
    Reads-err (λ t r. IsProfile t (profile_with r.0 r.1)) _ _ c.from_residual-in_err-added.ensures.0
    (λ r h. c.in_err-added.ensures.read r.1.added ((h.own, h.choices), h.own_ascend, h.agree, h.locks, h.states))

pub returns-in_err-estimates-clause-read : goal.returns-in_err-estimates-clause-read
returns-in_err-estimates-clause-read c =
    Reads-err (λ t r. IsProfile t (profile_with r.0 r.1)) _ _ c.from_residual-in_err-estimates.ensures.0 (λ r h. c.in_err-estimates.ensures.read r.1.estimates h.estimates)

pub returns-in_err-workers-clause-read : goal.returns-in_err-workers-clause-read
returns-in_err-workers-clause-read c =
    Reads-err (λ t r. IsProfile t (profile_with r.0 r.1)) _ _ c.from_residual-in_err-workers.ensures.0 (λ r h. c.in_err-workers.ensures.read r.0.workers h.workers)

pub returns-in_err-mute_reply-clause-read : goal.returns-in_err-mute_reply-clause-read
returns-in_err-mute_reply-clause-read c =
    Reads-err (λ t r. IsProfile t (profile_with r.0 r.1)) _ _ c.from_residual-in_err-mute_reply.ensures.0 (λ r h. c.in_err-mute_reply.ensures.read r.1.mute_reply h.mute_reply)

pub returns-in_err-modes-clause-read : goal.returns-in_err-modes-clause-read
returns-in_err-modes-clause-read c =
    let t = table_view c.args.table.now in
    let more : Some c.in_ok-more_slots.more_slots ≡ may 0 (number 0 512) (get_member (codes "more_slots") t) = c.in_ok-more_slots.ensures.value in
    let count : c.root_slots-count.result ≡ root_slots t =
    c.root_slots-count.ensures ∙ slots_counted _ _ _ _ more (c.len.ensures.value ∙ c.in_ok-slots.ensures.count) in
    let unit : IsUnit (root_slots t) t c.in_ok-root.root = rw (← count) c.in_ok-root.ensures.read in
    let refused = rw c.len-2.ensures.value at c.in_err-modes.ensures.refused in
    Reads-err (λ t r. IsProfile t (profile_with r.0 r.1)) _ _ c.from_residual-in_err-modes.ensures.0
    (λ r h.
    let Good : DeviceUnit → Type 0 = λ u. AreGoodModes (length u.personalities.items) (map shape_of r.1.modes) in
    not_behind t _ c.args.modes _ r.1.modes c.requires.modes refused h.modes (subst Good (one_unit (root_slots t) t _ _ h.root unit) h.modes_agree))

pub returns-clause-read : goal.returns-clause-read
returns-clause-read c =
    let more : Some c.in_ok-more_slots.more_slots ≡ may 0 (number 0 512) (get_member (codes "more_slots") (table_view c.args.table.now)) = c.in_ok-more_slots.ensures.value in
    let count : c.root_slots-count.result ≡ root_slots (table_view c.args.table.now) =
    c.root_slots-count.ensures ∙ slots_counted _ _ _ _ more (c.len.ensures.value ∙ c.in_ok-slots.ensures.count) in
    record {
      root = rw (← count) c.in_ok-root.ensures.read;
      sub = rw (← count) c.in_ok-subs.ensures.read;
      boot = search rules;
      boot_text = search rules;
      languages = search rules;
      slots = search rules;
      sensors = search rules;
      tests = search rules;
      tests_differ = search rules;
      statuses = search rules;
      statuses_differ = search rules;
      presets = search rules;
      more_slots = search rules;
      without = c.in_ok-without.ensures.read.0;
      may_lack = c.in_ok-without.ensures.read.1;
      own = c.in_ok-added.ensures.read.0.0;
      own_ascend = c.in_ok-added.ensures.read.1;
      choices = c.in_ok-added.ensures.read.0.1;
      agree = c.in_ok-added.ensures.read.2;
      locks = c.in_ok-added.ensures.read.3;
      states = c.in_ok-added.ensures.read.4;
      estimates = c.in_ok-estimates.ensures.read;
      workers = c.in_ok-workers.ensures.read;
      mute_reply = c.in_ok-mute_reply.ensures.read;
      newest_only = search rules;
      modes = as_read (table_view c.args.table.now) c.args.modes c.in_ok-modes.modes c.requires.modes c.in_ok-modes.ensures.good.0;
      modes_agree = rw c.len-2.ensures.value at c.in_ok-modes.ensures.good.1;
    }

pub sub_devices-requires : goal.sub_devices-requires
sub_devices-requires c = (c.in_ok-root.root, c.in_ok-root.ensures.read)

pub returns-in_err-boot-clause-wrong : goal.returns-in_err-boot-clause-wrong
returns-in_err-boot-clause-wrong c =
    exit (FirstWrong profile_parts (table_view c.args.table.now)) _ _ c.from_residual.ensures.1 (inl c.in_err-boot.ensures.wrong)

pub returns-in_err-boot_text-clause-wrong : goal.returns-in_err-boot_text-clause-wrong
returns-in_err-boot_text-clause-wrong c =
    exit (FirstWrong profile_parts (table_view c.args.table.now)) _ _ c.from_residual-in_err-boot_text.ensures.1
    (inr (free_right 0 (number 0 0xFFFFFFFF) (get_member (codes "boot_software_version_id") (table_view c.args.table.now)) _ c.in_ok-boot.ensures.value, inl c.in_err-boot_text.ensures.wrong))

pub returns-in_err-languages-clause-wrong : goal.returns-in_err-languages-clause-wrong
returns-in_err-languages-clause-wrong c =
    exit (FirstWrong profile_parts (table_view c.args.table.now)) _ _ c.from_residual-in_err-languages.ensures.1
    (inr (free_right 0 (number 0 0xFFFFFFFF) (get_member (codes "boot_software_version_id") (table_view c.args.table.now)) _ c.in_ok-boot.ensures.value, inr (free_right [] text (get_member (codes "boot_software_version_label") (table_view c.args.table.now)) _ c.in_ok-boot_text.ensures.value, inl c.in_err-languages.ensures.wrong)))

pub returns-in_err-presets-clause-wrong : goal.returns-in_err-presets-clause-wrong
returns-in_err-presets-clause-wrong c =
    exit (FirstWrong profile_parts (table_view c.args.table.now)) _ _ c.from_residual-in_err-presets.ensures.1
    (inr (free_right 0 (number 0 0xFFFFFFFF) (get_member (codes "boot_software_version_id") (table_view c.args.table.now)) _ c.in_ok-boot.ensures.value, inr (free_right [] text (get_member (codes "boot_software_version_label") (table_view c.args.table.now)) _ c.in_ok-boot_text.ensures.value, inr ((c.in_ok-languages.languages.items, c.in_ok-languages.ensures.read), inl c.in_err-presets.ensures.wrong))))

pub returns-in_err-more_slots-clause-wrong : goal.returns-in_err-more_slots-clause-wrong
returns-in_err-more_slots-clause-wrong c =
    exit (FirstWrong profile_parts (table_view c.args.table.now)) _ _ c.from_residual-in_err-more_slots.ensures.1
    (inr (free_right 0 (number 0 0xFFFFFFFF) (get_member (codes "boot_software_version_id") (table_view c.args.table.now)) _ c.in_ok-boot.ensures.value, inr (free_right [] text (get_member (codes "boot_software_version_label") (table_view c.args.table.now)) _ c.in_ok-boot_text.ensures.value, inr ((c.in_ok-languages.languages.items, c.in_ok-languages.ensures.read), inr (free_right 0 (number 0 65534) (get_member (codes "presets") (table_view c.args.table.now)) _ c.in_ok-presets.ensures.value, inl c.in_err-more_slots.ensures.wrong)))))

pub returns-in_err-slots-clause-wrong : goal.returns-in_err-slots-clause-wrong
returns-in_err-slots-clause-wrong c =
    exit (FirstWrong profile_parts (table_view c.args.table.now)) _ _ c.from_residual-in_err-slots.ensures.1
    (inr (free_right 0 (number 0 0xFFFFFFFF) (get_member (codes "boot_software_version_id") (table_view c.args.table.now)) _ c.in_ok-boot.ensures.value, inr (free_right [] text (get_member (codes "boot_software_version_label") (table_view c.args.table.now)) _ c.in_ok-boot_text.ensures.value, inr ((c.in_ok-languages.languages.items, c.in_ok-languages.ensures.read), inr (free_right 0 (number 0 65534) (get_member (codes "presets") (table_view c.args.table.now)) _ c.in_ok-presets.ensures.value, inr (free_right 0 (number 0 512) (get_member (codes "more_slots") (table_view c.args.table.now)) _ c.in_ok-more_slots.ensures.value, inl c.in_err-slots.ensures.wrong))))))

pub returns-in_err-root-clause-wrong : goal.returns-in_err-root-clause-wrong
returns-in_err-root-clause-wrong c =
    let more : Some c.in_ok-more_slots.more_slots ≡ may 0 (number 0 512) (get_member (codes "more_slots") (table_view c.args.table.now)) = c.in_ok-more_slots.ensures.value in
    let count : c.root_slots-count.result ≡ root_slots (table_view c.args.table.now) =
    c.root_slots-count.ensures ∙ slots_counted _ _ _ _ more (c.len.ensures.value ∙ c.in_ok-slots.ensures.count) in
    exit (FirstWrong profile_parts (table_view c.args.table.now)) _ _ c.from_residual-in_err-root.ensures.1
    (inr (free_right 0 (number 0 0xFFFFFFFF) (get_member (codes "boot_software_version_id") (table_view c.args.table.now)) _ c.in_ok-boot.ensures.value, inr (free_right [] text (get_member (codes "boot_software_version_label") (table_view c.args.table.now)) _ c.in_ok-boot_text.ensures.value, inr ((c.in_ok-languages.languages.items, c.in_ok-languages.ensures.read), inr (free_right 0 (number 0 65534) (get_member (codes "presets") (table_view c.args.table.now)) _ c.in_ok-presets.ensures.value, inr (free_right 0 (number 0 512) (get_member (codes "more_slots") (table_view c.args.table.now)) _ c.in_ok-more_slots.ensures.value, inr ((c.in_ok-slots.slots.items, c.in_ok-slots.ensures.read), inl (let Wrong : ℕ → Type 0 = λ n. FirstWrong (unit_parts n) (table_view c.args.table.now) (told c.in_err-root.field-0.0) in subst Wrong count c.in_err-root.ensures.wrong))))))))

pub returns-in_err-subs-clause-wrong : goal.returns-in_err-subs-clause-wrong
returns-in_err-subs-clause-wrong c =
    let more : Some c.in_ok-more_slots.more_slots ≡ may 0 (number 0 512) (get_member (codes "more_slots") (table_view c.args.table.now)) = c.in_ok-more_slots.ensures.value in
    let count : c.root_slots-count.result ≡ root_slots (table_view c.args.table.now) =
    c.root_slots-count.ensures ∙ slots_counted _ _ _ _ more (c.len.ensures.value ∙ c.in_ok-slots.ensures.count) in
    exit (FirstWrong profile_parts (table_view c.args.table.now)) _ _ c.from_residual-in_err-subs.ensures.1
    (inr (free_right 0 (number 0 0xFFFFFFFF) (get_member (codes "boot_software_version_id") (table_view c.args.table.now)) _ c.in_ok-boot.ensures.value, inr (free_right [] text (get_member (codes "boot_software_version_label") (table_view c.args.table.now)) _ c.in_ok-boot_text.ensures.value, inr ((c.in_ok-languages.languages.items, c.in_ok-languages.ensures.read), inr (free_right 0 (number 0 65534) (get_member (codes "presets") (table_view c.args.table.now)) _ c.in_ok-presets.ensures.value, inr (free_right 0 (number 0 512) (get_member (codes "more_slots") (table_view c.args.table.now)) _ c.in_ok-more_slots.ensures.value, inr ((c.in_ok-slots.slots.items, c.in_ok-slots.ensures.read), inr ((c.in_ok-root.root, rw (← count) c.in_ok-root.ensures.read), inl c.in_err-subs.ensures.wrong))))))))

pub returns-in_err-sensors-clause-wrong : goal.returns-in_err-sensors-clause-wrong
returns-in_err-sensors-clause-wrong c =
    let more : Some c.in_ok-more_slots.more_slots ≡ may 0 (number 0 512) (get_member (codes "more_slots") (table_view c.args.table.now)) = c.in_ok-more_slots.ensures.value in
    let count : c.root_slots-count.result ≡ root_slots (table_view c.args.table.now) =
    c.root_slots-count.ensures ∙ slots_counted _ _ _ _ more (c.len.ensures.value ∙ c.in_ok-slots.ensures.count) in
    exit (FirstWrong profile_parts (table_view c.args.table.now)) _ _ c.from_residual-in_err-sensors.ensures.1
    (inr (free_right 0 (number 0 0xFFFFFFFF) (get_member (codes "boot_software_version_id") (table_view c.args.table.now)) _ c.in_ok-boot.ensures.value, inr (free_right [] text (get_member (codes "boot_software_version_label") (table_view c.args.table.now)) _ c.in_ok-boot_text.ensures.value, inr ((c.in_ok-languages.languages.items, c.in_ok-languages.ensures.read), inr (free_right 0 (number 0 65534) (get_member (codes "presets") (table_view c.args.table.now)) _ c.in_ok-presets.ensures.value, inr (free_right 0 (number 0 512) (get_member (codes "more_slots") (table_view c.args.table.now)) _ c.in_ok-more_slots.ensures.value, inr ((c.in_ok-slots.slots.items, c.in_ok-slots.ensures.read), inr ((c.in_ok-root.root, rw (← count) c.in_ok-root.ensures.read), inr (((c.in_ok-subs.subs, c.in_ok-subs.sub), rw (← count) c.in_ok-subs.ensures.read), inl c.in_err-sensors.ensures.wrong)))))))))

pub returns-in_err-tests-clause-wrong : goal.returns-in_err-tests-clause-wrong
returns-in_err-tests-clause-wrong c =
    let more : Some c.in_ok-more_slots.more_slots ≡ may 0 (number 0 512) (get_member (codes "more_slots") (table_view c.args.table.now)) = c.in_ok-more_slots.ensures.value in
    let count : c.root_slots-count.result ≡ root_slots (table_view c.args.table.now) =
    c.root_slots-count.ensures ∙ slots_counted _ _ _ _ more (c.len.ensures.value ∙ c.in_ok-slots.ensures.count) in
    exit (FirstWrong profile_parts (table_view c.args.table.now)) _ _ c.from_residual-in_err-tests.ensures.1
    (inr (free_right 0 (number 0 0xFFFFFFFF) (get_member (codes "boot_software_version_id") (table_view c.args.table.now)) _ c.in_ok-boot.ensures.value, inr (free_right [] text (get_member (codes "boot_software_version_label") (table_view c.args.table.now)) _ c.in_ok-boot_text.ensures.value, inr ((c.in_ok-languages.languages.items, c.in_ok-languages.ensures.read), inr (free_right 0 (number 0 65534) (get_member (codes "presets") (table_view c.args.table.now)) _ c.in_ok-presets.ensures.value, inr (free_right 0 (number 0 512) (get_member (codes "more_slots") (table_view c.args.table.now)) _ c.in_ok-more_slots.ensures.value, inr ((c.in_ok-slots.slots.items, c.in_ok-slots.ensures.read), inr ((c.in_ok-root.root, rw (← count) c.in_ok-root.ensures.read), inr (((c.in_ok-subs.subs, c.in_ok-subs.sub), rw (← count) c.in_ok-subs.ensures.read), inr ((_, c.in_ok-sensors.ensures.read), among tests_parts after_tests (table_view c.args.table.now) _ c.in_err-tests.ensures.wrong))))))))))

pub returns-in_err-status_texts-clause-wrong : goal.returns-in_err-status_texts-clause-wrong
returns-in_err-status_texts-clause-wrong c =
    let more : Some c.in_ok-more_slots.more_slots ≡ may 0 (number 0 512) (get_member (codes "more_slots") (table_view c.args.table.now)) = c.in_ok-more_slots.ensures.value in
    let count : c.root_slots-count.result ≡ root_slots (table_view c.args.table.now) =
    c.root_slots-count.ensures ∙ slots_counted _ _ _ _ more (c.len.ensures.value ∙ c.in_ok-slots.ensures.count) in
    exit (FirstWrong profile_parts (table_view c.args.table.now)) _ _ c.from_residual-in_err-status_texts.ensures.1
    (inr (free_right 0 (number 0 0xFFFFFFFF) (get_member (codes "boot_software_version_id") (table_view c.args.table.now)) _ c.in_ok-boot.ensures.value, inr (free_right [] text (get_member (codes "boot_software_version_label") (table_view c.args.table.now)) _ c.in_ok-boot_text.ensures.value, inr ((c.in_ok-languages.languages.items, c.in_ok-languages.ensures.read), inr (free_right 0 (number 0 65534) (get_member (codes "presets") (table_view c.args.table.now)) _ c.in_ok-presets.ensures.value, inr (free_right 0 (number 0 512) (get_member (codes "more_slots") (table_view c.args.table.now)) _ c.in_ok-more_slots.ensures.value, inr ((c.in_ok-slots.slots.items, c.in_ok-slots.ensures.read), inr ((c.in_ok-root.root, rw (← count) c.in_ok-root.ensures.read), inr (((c.in_ok-subs.subs, c.in_ok-subs.sub), rw (← count) c.in_ok-subs.ensures.read), inr ((_, c.in_ok-sensors.ensures.read), inr ((_, c.in_ok-tests.ensures.read.0), inr ((_, c.in_ok-tests.ensures.read), among statuses_parts after_statuses (table_view c.args.table.now) _ c.in_err-status_texts.ensures.wrong))))))))))))

pub returns-in_err-without-clause-wrong : goal.returns-in_err-without-clause-wrong
returns-in_err-without-clause-wrong c =
    let more : Some c.in_ok-more_slots.more_slots ≡ may 0 (number 0 512) (get_member (codes "more_slots") (table_view c.args.table.now)) = c.in_ok-more_slots.ensures.value in
    let count : c.root_slots-count.result ≡ root_slots (table_view c.args.table.now) =
    c.root_slots-count.ensures ∙ slots_counted _ _ _ _ more (c.len.ensures.value ∙ c.in_ok-slots.ensures.count) in
    exit (FirstWrong profile_parts (table_view c.args.table.now)) _ _ c.from_residual-in_err-without.ensures.1
    (inr (free_right 0 (number 0 0xFFFFFFFF) (get_member (codes "boot_software_version_id") (table_view c.args.table.now)) _ c.in_ok-boot.ensures.value, inr (free_right [] text (get_member (codes "boot_software_version_label") (table_view c.args.table.now)) _ c.in_ok-boot_text.ensures.value, inr ((c.in_ok-languages.languages.items, c.in_ok-languages.ensures.read), inr (free_right 0 (number 0 65534) (get_member (codes "presets") (table_view c.args.table.now)) _ c.in_ok-presets.ensures.value, inr (free_right 0 (number 0 512) (get_member (codes "more_slots") (table_view c.args.table.now)) _ c.in_ok-more_slots.ensures.value, inr ((c.in_ok-slots.slots.items, c.in_ok-slots.ensures.read), inr ((c.in_ok-root.root, rw (← count) c.in_ok-root.ensures.read), inr (((c.in_ok-subs.subs, c.in_ok-subs.sub), rw (← count) c.in_ok-subs.ensures.read), inr ((_, c.in_ok-sensors.ensures.read), inr ((_, c.in_ok-tests.ensures.read.0), inr ((_, c.in_ok-tests.ensures.read), inr ((_, c.in_ok-status_texts.ensures.read.0), inr ((_, c.in_ok-status_texts.ensures.read), among without_parts after_without (table_view c.args.table.now) _ c.in_err-without.ensures.wrong))))))))))))))

pub returns-in_err-added-clause-wrong : goal.returns-in_err-added-clause-wrong
returns-in_err-added-clause-wrong c =
    let more : Some c.in_ok-more_slots.more_slots ≡ may 0 (number 0 512) (get_member (codes "more_slots") (table_view c.args.table.now)) = c.in_ok-more_slots.ensures.value in
    let count : c.root_slots-count.result ≡ root_slots (table_view c.args.table.now) =
    c.root_slots-count.ensures ∙ slots_counted _ _ _ _ more (c.len.ensures.value ∙ c.in_ok-slots.ensures.count) in
    exit (FirstWrong profile_parts (table_view c.args.table.now)) _ _ c.from_residual-in_err-added.ensures.1
    (inr (free_right 0 (number 0 0xFFFFFFFF) (get_member (codes "boot_software_version_id") (table_view c.args.table.now)) _ c.in_ok-boot.ensures.value, inr (free_right [] text (get_member (codes "boot_software_version_label") (table_view c.args.table.now)) _ c.in_ok-boot_text.ensures.value, inr ((c.in_ok-languages.languages.items, c.in_ok-languages.ensures.read), inr (free_right 0 (number 0 65534) (get_member (codes "presets") (table_view c.args.table.now)) _ c.in_ok-presets.ensures.value, inr (free_right 0 (number 0 512) (get_member (codes "more_slots") (table_view c.args.table.now)) _ c.in_ok-more_slots.ensures.value, inr ((c.in_ok-slots.slots.items, c.in_ok-slots.ensures.read), inr ((c.in_ok-root.root, rw (← count) c.in_ok-root.ensures.read), inr (((c.in_ok-subs.subs, c.in_ok-subs.sub), rw (← count) c.in_ok-subs.ensures.read), inr ((_, c.in_ok-sensors.ensures.read), inr ((_, c.in_ok-tests.ensures.read.0), inr ((_, c.in_ok-tests.ensures.read), inr ((_, c.in_ok-status_texts.ensures.read.0), inr ((_, c.in_ok-status_texts.ensures.read), inr ((_, c.in_ok-without.ensures.read.0), inr ((_, (c.in_ok-without.ensures.read.0, c.in_ok-without.ensures.read.1.optional)), inr ((_, (c.in_ok-without.ensures.read.0, c.in_ok-without.ensures.read.1.needs)), among added_parts (times ∷ choice ∷ muting ∷ newest ∷ modes_part ∷ modes_agree ∷ []) (table_view c.args.table.now) _ c.in_err-added.ensures.wrong)))))))))))))))))

pub returns-in_err-estimates-clause-wrong : goal.returns-in_err-estimates-clause-wrong
returns-in_err-estimates-clause-wrong c =
    let more : Some c.in_ok-more_slots.more_slots ≡ may 0 (number 0 512) (get_member (codes "more_slots") (table_view c.args.table.now)) = c.in_ok-more_slots.ensures.value in
    let count : c.root_slots-count.result ≡ root_slots (table_view c.args.table.now) =
    c.root_slots-count.ensures ∙ slots_counted _ _ _ _ more (c.len.ensures.value ∙ c.in_ok-slots.ensures.count) in
    exit (FirstWrong profile_parts (table_view c.args.table.now)) _ _ c.from_residual-in_err-estimates.ensures.1
    (inr (free_right 0 (number 0 0xFFFFFFFF) (get_member (codes "boot_software_version_id") (table_view c.args.table.now)) _ c.in_ok-boot.ensures.value, inr (free_right [] text (get_member (codes "boot_software_version_label") (table_view c.args.table.now)) _ c.in_ok-boot_text.ensures.value, inr ((c.in_ok-languages.languages.items, c.in_ok-languages.ensures.read), inr (free_right 0 (number 0 65534) (get_member (codes "presets") (table_view c.args.table.now)) _ c.in_ok-presets.ensures.value, inr (free_right 0 (number 0 512) (get_member (codes "more_slots") (table_view c.args.table.now)) _ c.in_ok-more_slots.ensures.value, inr ((c.in_ok-slots.slots.items, c.in_ok-slots.ensures.read), inr ((c.in_ok-root.root, rw (← count) c.in_ok-root.ensures.read), inr (((c.in_ok-subs.subs, c.in_ok-subs.sub), rw (← count) c.in_ok-subs.ensures.read), inr ((_, c.in_ok-sensors.ensures.read), inr ((_, c.in_ok-tests.ensures.read.0), inr ((_, c.in_ok-tests.ensures.read), inr ((_, c.in_ok-status_texts.ensures.read.0), inr ((_, c.in_ok-status_texts.ensures.read), inr ((_, c.in_ok-without.ensures.read.0), inr ((_, (c.in_ok-without.ensures.read.0, c.in_ok-without.ensures.read.1.optional)), inr ((_, (c.in_ok-without.ensures.read.0, c.in_ok-without.ensures.read.1.needs)), behind added_parts (times ∷ choice ∷ muting ∷ newest ∷ modes_part ∷ modes_agree ∷ []) (table_view c.args.table.now) _ (all_added (table_view c.args.table.now) c.in_ok-added.added.own.items c.in_ok-added.added.choices.items c.in_ok-added.added.locks.items c.in_ok-added.ensures.read) (inl c.in_err-estimates.ensures.wrong))))))))))))))))))

pub returns-in_err-workers-clause-wrong : goal.returns-in_err-workers-clause-wrong
returns-in_err-workers-clause-wrong c =
    let more : Some c.in_ok-more_slots.more_slots ≡ may 0 (number 0 512) (get_member (codes "more_slots") (table_view c.args.table.now)) = c.in_ok-more_slots.ensures.value in
    let count : c.root_slots-count.result ≡ root_slots (table_view c.args.table.now) =
    c.root_slots-count.ensures ∙ slots_counted _ _ _ _ more (c.len.ensures.value ∙ c.in_ok-slots.ensures.count) in
    exit (FirstWrong profile_parts (table_view c.args.table.now)) _ _ c.from_residual-in_err-workers.ensures.1
    (inr (free_right 0 (number 0 0xFFFFFFFF) (get_member (codes "boot_software_version_id") (table_view c.args.table.now)) _ c.in_ok-boot.ensures.value, inr (free_right [] text (get_member (codes "boot_software_version_label") (table_view c.args.table.now)) _ c.in_ok-boot_text.ensures.value, inr ((c.in_ok-languages.languages.items, c.in_ok-languages.ensures.read), inr (free_right 0 (number 0 65534) (get_member (codes "presets") (table_view c.args.table.now)) _ c.in_ok-presets.ensures.value, inr (free_right 0 (number 0 512) (get_member (codes "more_slots") (table_view c.args.table.now)) _ c.in_ok-more_slots.ensures.value, inr ((c.in_ok-slots.slots.items, c.in_ok-slots.ensures.read), inr ((c.in_ok-root.root, rw (← count) c.in_ok-root.ensures.read), inr (((c.in_ok-subs.subs, c.in_ok-subs.sub), rw (← count) c.in_ok-subs.ensures.read), inr ((_, c.in_ok-sensors.ensures.read), inr ((_, c.in_ok-tests.ensures.read.0), inr ((_, c.in_ok-tests.ensures.read), inr ((_, c.in_ok-status_texts.ensures.read.0), inr ((_, c.in_ok-status_texts.ensures.read), inr ((_, c.in_ok-without.ensures.read.0), inr ((_, (c.in_ok-without.ensures.read.0, c.in_ok-without.ensures.read.1.optional)), inr ((_, (c.in_ok-without.ensures.read.0, c.in_ok-without.ensures.read.1.needs)), behind added_parts (times ∷ choice ∷ muting ∷ newest ∷ modes_part ∷ modes_agree ∷ []) (table_view c.args.table.now) _ (all_added (table_view c.args.table.now) c.in_ok-added.added.own.items c.in_ok-added.added.choices.items c.in_ok-added.added.locks.items c.in_ok-added.ensures.read) (inr ((c.in_ok-estimates.estimates, c.in_ok-estimates.ensures.read), inl c.in_err-workers.ensures.wrong)))))))))))))))))))

pub returns-in_err-mute_reply-clause-wrong : goal.returns-in_err-mute_reply-clause-wrong
returns-in_err-mute_reply-clause-wrong c =
    let more : Some c.in_ok-more_slots.more_slots ≡ may 0 (number 0 512) (get_member (codes "more_slots") (table_view c.args.table.now)) = c.in_ok-more_slots.ensures.value in
    let count : c.root_slots-count.result ≡ root_slots (table_view c.args.table.now) =
    c.root_slots-count.ensures ∙ slots_counted _ _ _ _ more (c.len.ensures.value ∙ c.in_ok-slots.ensures.count) in
    exit (FirstWrong profile_parts (table_view c.args.table.now)) _ _ c.from_residual-in_err-mute_reply.ensures.1
    (inr (free_right 0 (number 0 0xFFFFFFFF) (get_member (codes "boot_software_version_id") (table_view c.args.table.now)) _ c.in_ok-boot.ensures.value, inr (free_right [] text (get_member (codes "boot_software_version_label") (table_view c.args.table.now)) _ c.in_ok-boot_text.ensures.value, inr ((c.in_ok-languages.languages.items, c.in_ok-languages.ensures.read), inr (free_right 0 (number 0 65534) (get_member (codes "presets") (table_view c.args.table.now)) _ c.in_ok-presets.ensures.value, inr (free_right 0 (number 0 512) (get_member (codes "more_slots") (table_view c.args.table.now)) _ c.in_ok-more_slots.ensures.value, inr ((c.in_ok-slots.slots.items, c.in_ok-slots.ensures.read), inr ((c.in_ok-root.root, rw (← count) c.in_ok-root.ensures.read), inr (((c.in_ok-subs.subs, c.in_ok-subs.sub), rw (← count) c.in_ok-subs.ensures.read), inr ((_, c.in_ok-sensors.ensures.read), inr ((_, c.in_ok-tests.ensures.read.0), inr ((_, c.in_ok-tests.ensures.read), inr ((_, c.in_ok-status_texts.ensures.read.0), inr ((_, c.in_ok-status_texts.ensures.read), inr ((_, c.in_ok-without.ensures.read.0), inr ((_, (c.in_ok-without.ensures.read.0, c.in_ok-without.ensures.read.1.optional)), inr ((_, (c.in_ok-without.ensures.read.0, c.in_ok-without.ensures.read.1.needs)), behind added_parts (times ∷ choice ∷ muting ∷ newest ∷ modes_part ∷ modes_agree ∷ []) (table_view c.args.table.now) _ (all_added (table_view c.args.table.now) c.in_ok-added.added.own.items c.in_ok-added.added.choices.items c.in_ok-added.added.locks.items c.in_ok-added.ensures.read) (inr ((c.in_ok-estimates.estimates, c.in_ok-estimates.ensures.read), inr ((c.in_ok-workers.workers, c.in_ok-workers.ensures.read), inl c.in_err-mute_reply.ensures.wrong))))))))))))))))))))

pub returns-in_err-newest_only-clause-wrong : goal.returns-in_err-newest_only-clause-wrong
returns-in_err-newest_only-clause-wrong c =
    let more : Some c.in_ok-more_slots.more_slots ≡ may 0 (number 0 512) (get_member (codes "more_slots") (table_view c.args.table.now)) = c.in_ok-more_slots.ensures.value in
    let count : c.root_slots-count.result ≡ root_slots (table_view c.args.table.now) =
    c.root_slots-count.ensures ∙ slots_counted _ _ _ _ more (c.len.ensures.value ∙ c.in_ok-slots.ensures.count) in
    exit (FirstWrong profile_parts (table_view c.args.table.now)) _ _ c.from_residual-in_err-newest_only.ensures.1
    (inr (free_right 0 (number 0 0xFFFFFFFF) (get_member (codes "boot_software_version_id") (table_view c.args.table.now)) _ c.in_ok-boot.ensures.value, inr (free_right [] text (get_member (codes "boot_software_version_label") (table_view c.args.table.now)) _ c.in_ok-boot_text.ensures.value, inr ((c.in_ok-languages.languages.items, c.in_ok-languages.ensures.read), inr (free_right 0 (number 0 65534) (get_member (codes "presets") (table_view c.args.table.now)) _ c.in_ok-presets.ensures.value, inr (free_right 0 (number 0 512) (get_member (codes "more_slots") (table_view c.args.table.now)) _ c.in_ok-more_slots.ensures.value, inr ((c.in_ok-slots.slots.items, c.in_ok-slots.ensures.read), inr ((c.in_ok-root.root, rw (← count) c.in_ok-root.ensures.read), inr (((c.in_ok-subs.subs, c.in_ok-subs.sub), rw (← count) c.in_ok-subs.ensures.read), inr ((_, c.in_ok-sensors.ensures.read), inr ((_, c.in_ok-tests.ensures.read.0), inr ((_, c.in_ok-tests.ensures.read), inr ((_, c.in_ok-status_texts.ensures.read.0), inr ((_, c.in_ok-status_texts.ensures.read), inr ((_, c.in_ok-without.ensures.read.0), inr ((_, (c.in_ok-without.ensures.read.0, c.in_ok-without.ensures.read.1.optional)), inr ((_, (c.in_ok-without.ensures.read.0, c.in_ok-without.ensures.read.1.needs)), behind added_parts (times ∷ choice ∷ muting ∷ newest ∷ modes_part ∷ modes_agree ∷ []) (table_view c.args.table.now) _ (all_added (table_view c.args.table.now) c.in_ok-added.added.own.items c.in_ok-added.added.choices.items c.in_ok-added.added.locks.items c.in_ok-added.ensures.read) (inr ((c.in_ok-estimates.estimates, c.in_ok-estimates.ensures.read), inr ((c.in_ok-workers.workers, c.in_ok-workers.ensures.read), inr ((c.in_ok-mute_reply.mute_reply, c.in_ok-mute_reply.ensures.read), inl c.in_err-newest_only.ensures.wrong)))))))))))))))))))))

pub returns-in_err-modes-clause-wrong : goal.returns-in_err-modes-clause-wrong
returns-in_err-modes-clause-wrong c =
    let more : Some c.in_ok-more_slots.more_slots ≡ may 0 (number 0 512) (get_member (codes "more_slots") (table_view c.args.table.now)) = c.in_ok-more_slots.ensures.value in
    let count : c.root_slots-count.result ≡ root_slots (table_view c.args.table.now) =
    c.root_slots-count.ensures ∙ slots_counted _ _ _ _ more (c.len.ensures.value ∙ c.in_ok-slots.ensures.count) in
    let refused = rw c.len-2.ensures.value at c.in_err-modes.ensures.refused in
    exit (FirstWrong profile_parts (table_view c.args.table.now)) _ _ c.from_residual-in_err-modes.ensures.1
    (inr (free_right 0 (number 0 0xFFFFFFFF) (get_member (codes "boot_software_version_id") (table_view c.args.table.now)) _ c.in_ok-boot.ensures.value, inr (free_right [] text (get_member (codes "boot_software_version_label") (table_view c.args.table.now)) _ c.in_ok-boot_text.ensures.value, inr ((c.in_ok-languages.languages.items, c.in_ok-languages.ensures.read), inr (free_right 0 (number 0 65534) (get_member (codes "presets") (table_view c.args.table.now)) _ c.in_ok-presets.ensures.value, inr (free_right 0 (number 0 512) (get_member (codes "more_slots") (table_view c.args.table.now)) _ c.in_ok-more_slots.ensures.value, inr ((c.in_ok-slots.slots.items, c.in_ok-slots.ensures.read), inr ((c.in_ok-root.root, rw (← count) c.in_ok-root.ensures.read), inr (((c.in_ok-subs.subs, c.in_ok-subs.sub), rw (← count) c.in_ok-subs.ensures.read), inr ((_, c.in_ok-sensors.ensures.read), inr ((_, c.in_ok-tests.ensures.read.0), inr ((_, c.in_ok-tests.ensures.read), inr ((_, c.in_ok-status_texts.ensures.read.0), inr ((_, c.in_ok-status_texts.ensures.read), inr ((_, c.in_ok-without.ensures.read.0), inr ((_, (c.in_ok-without.ensures.read.0, c.in_ok-without.ensures.read.1.optional)), inr ((_, (c.in_ok-without.ensures.read.0, c.in_ok-without.ensures.read.1.needs)), behind added_parts (times ∷ choice ∷ muting ∷ newest ∷ modes_part ∷ modes_agree ∷ []) (table_view c.args.table.now) _ (all_added (table_view c.args.table.now) c.in_ok-added.added.own.items c.in_ok-added.added.choices.items c.in_ok-added.added.locks.items c.in_ok-added.ensures.read) (inr ((c.in_ok-estimates.estimates, c.in_ok-estimates.ensures.read), inr ((c.in_ok-workers.workers, c.in_ok-workers.ensures.read), inr ((c.in_ok-mute_reply.mute_reply, c.in_ok-mute_reply.ensures.read), inr (free_right false flag (get_member (codes "newest_only") (table_view c.args.table.now)) _ c.in_ok-newest_only.ensures.value, wrong_behind (table_view c.args.table.now) c.in_ok-root.root c.args.modes _ c.requires.modes c.requires.refusal (rw (← count) c.in_ok-root.ensures.read) refused))))))))))))))))))))))
