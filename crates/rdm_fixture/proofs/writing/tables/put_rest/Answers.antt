use Rattle.std.proofs.Common.{◌≡◌, ◌≤◌, Some, ap, sym, subst, length, refl, option_map, arith}
use Rattle.toml.specs.Data.{Members, table}
use Rattle.toml.specs.View.{view, table_view}
use Rattle.rdm_fixture_keys.specs.Entries.{IsSlot, IsSensor, IsSelfTest, IsStatus, IsChoice}
use Rattle.rdm_fixture.specs.Format.{IsFixture, IsLocking, parameter_named}
use Rattle.rdm_fixture.specs.Parameters.{IsParameter}
use Rattle.rdm_fixture.specs.Lists.{ListAt, OfTable}
use Rattle.rdm_fixture.specs.Outcomes.{IsOutcome}
use Rattle.rdm_fixture.specs.Notices.{IsNotice}
use Rattle.rdm_fixture.specs.OverTime.{IsCourse}
use Rattle.rdm_fixture.specs.OwnSlots.{IsMode}
use Rattle.rdm_fixture.specs.Starting.{SaysPresent}
use Rattle.rdm_fixture.specs.Writing.{locking_of, IsPlain}
use Rattle.rdm_fixture.proofs.WrittenFixtures.{fixture_members, fixture_says, fixture_plain, deeper, deeper_some}
use Rattle.rdm_fixture.proofs.WrittenLists.{some_plain}
use Rattle.rdm_fixture.proofs.ChoiceNumbers.{all_numbered}
use Rattle.rdm_fixture.proofs.Locks.{all_stated}
use Rattle.rdm_fixture.proofs.OwnSlots.{all_fit}
use Rattle.rdm_fixture.proofs.writing.tables.put_rest.Goals as goal

pub returns-clause-says : goal.returns-clause-says
returns-clause-says c = λ can rest.
    let f = c.args.fixture.now in
    let texts = can.texts in
    let made = can.made.1 in
    let slots : ListAt (OfTable IsSlot) (option_map view c.in_ok-list_of.field-0) f.profile.slots.items =
    rw c.as_slice.ensures.value at (c.in_ok-list_of.ensures.says 0 (rw c.as_slice.ensures.value (λ k d less. texts.slots k d less))) in
    let slots_fit : length f.profile.slots.items ≤ 46 = omega (arith, ap length c.as_slice.ensures.value, c.as_slice.ensures.fits) in
    let sensors : ListAt (OfTable IsSensor) (option_map view c.in_ok-sensors_of.field-0) f.profile.sensors.items =
    rw c.as_slice-2.ensures.value at (c.in_ok-sensors_of.ensures.sensors (rw c.as_slice-2.ensures.value (λ k d less. texts.sensors k d less))) in
    let presents : ListAt (OfTable SaysPresent) (option_map view c.in_ok-sensors_of.field-0) f.start.presents.items =
    rw c.as_slice-3.ensures.value at c.in_ok-sensors_of.ensures.presents in
    let courses : ListAt (OfTable IsCourse) (option_map view c.in_ok-sensors_of.field-0) f.start.courses.items =
    rw c.as_slice-4.ensures.value at (c.in_ok-sensors_of.ensures.courses (rw (c.as_slice-4.ensures.value, c.as_slice-2.ensures.value) can.courses)) in
    let sensors_fit : length f.profile.sensors.items ≤ 8 = omega (arith, ap length c.as_slice-2.ensures.value, c.as_slice-2.ensures.fits) in
    let tests : ListAt (OfTable IsSelfTest) (option_map view c.in_ok-list_of-2.field-0) f.profile.tests.items =
    rw c.as_slice-5.ensures.value at (c.in_ok-list_of-2.ensures.says 0 (rw c.as_slice-5.ensures.value (λ k d less. (made.test_numbers k d less, texts.tests k d less)))) in
    let tests_fit : length f.profile.tests.items ≤ 8 = omega (arith, ap length c.as_slice-5.ensures.value, c.as_slice-5.ensures.fits) in
    let statuses : ListAt (OfTable IsStatus) (option_map view c.in_ok-list_of-3.field-0) f.profile.status_texts.items =
    rw c.as_slice-6.ensures.value at (c.in_ok-list_of-3.ensures.says 0 (rw c.as_slice-6.ensures.value (λ k d less. texts.statuses k d less))) in
    let statuses_fit : length f.profile.status_texts.items ≤ 8 = omega (arith, ap length c.as_slice-6.ensures.value, c.as_slice-6.ensures.fits) in
    let lacked : ListAt (λ d pid. parameter_named d ≡ Some pid) (option_map view c.in_ok-names_of.field-0) f.profile.particulars.without.items =
    rw c.without.ensures.value at (c.in_ok-names_of.ensures.says (rw c.without.ensures.value (made.without.optional.1))) in
    let lacked_fit : length f.profile.particulars.without.items ≤ 36 = omega (arith, ap length c.without.ensures.value, c.without.ensures.few) in
    let own : ListAt (OfTable IsParameter) (option_map view c.in_ok-list_of-4.field-0) f.profile.particulars.own =
    rw c.own.ensures.value at (c.in_ok-list_of-4.ensures.says 0 (rw c.own.ensures.value (λ k d less. (made.own.pids.0 k d less, made.own.starts k d less, made.own.fields k d less, made.own.standards k d less, can.parameters k d less)))) in
    let own_fit : length f.profile.particulars.own ≤ 32 = omega (arith, ap length c.own.ensures.value, c.own.ensures.few) in
    let named : ListAt (OfTable IsChoice) (option_map view c.in_ok-list_of-5.field-0) f.profile.particulars.choices =
    rw c.choices.ensures.value at (c.in_ok-list_of-5.ensures.says 0 (rw c.choices.ensures.value (λ k d less. (all_numbered f.profile.particulars.own f.profile.particulars.choices made.own.agree.names k d less, texts.choices k d less)))) in
    let named_fit : length f.profile.particulars.choices ≤ 64 = omega (arith, ap length c.choices.ensures.value, c.choices.ensures.few) in
    let locked : ListAt (OfTable (λ t l. IsLocking t (locking_of l))) (option_map view c.in_ok-list_of-6.field-0) f.profile.particulars.locks =
    rw c.locks.ensures.value at (c.in_ok-list_of-6.ensures.says 0 (rw c.locks.ensures.value (all_stated f.profile.particulars.own f.profile.particulars.locks made.locks.states))) in
    let locked_fit : length f.profile.particulars.locks ≤ 64 = omega (arith, ap length c.locks.ensures.value, c.locks.ensures.few) in
    let outcomes : ListAt (OfTable IsOutcome) (option_map view c.in_ok-list_of-7.field-0) f.outcomes.items =
    rw c.as_slice-7.ensures.value at (c.in_ok-list_of-7.ensures.says 0 (rw c.as_slice-7.ensures.value (can.outcomes))) in
    let outcomes_fit : length f.outcomes.items ≤ 32 = omega (arith, ap length c.as_slice-7.ensures.value, c.as_slice-7.ensures.fits) in
    let notices : ListAt (OfTable IsNotice) (option_map view c.in_ok-list_of-8.field-0) f.start.notices.items =
    rw c.as_slice-8.ensures.value at (c.in_ok-list_of-8.ensures.says 0 (rw c.as_slice-8.ensures.value (can.notices))) in
    let notices_fit : length f.start.notices.items ≤ 16 = omega (arith, ap length c.as_slice-8.ensures.value, c.as_slice-8.ensures.fits) in
    let own_slots : ListAt (OfTable IsMode) (option_map view c.in_ok-list_of-9.field-0) f.profile.particulars.modes =
    rw c.modes.ensures.value at (c.in_ok-list_of-9.ensures.says 0 (rw c.modes.ensures.value (λ k d less. (all_fit f.profile.particulars.modes made.modes.footprints k d less, texts.modes k d less)))) in
    let whole = fixture_members f (table_view c.args.table.now) (view c.in_ok-uid_of.field-0) (view c.in_ok-languages_of.field-0)
    (option_map view c.in_ok-list_of.field-0) (option_map view c.in_ok-sensors_of.field-0) (option_map view c.in_ok-list_of-2.field-0) (option_map view c.in_ok-list_of-3.field-0) (option_map view c.in_ok-names_of.field-0) (option_map view c.in_ok-list_of-4.field-0) (option_map view c.in_ok-list_of-5.field-0) (option_map view c.in_ok-list_of-6.field-0) (option_map view c.in_ok-list_of-7.field-0) (option_map view c.in_ok-sub_devices_of.field-0) (option_map view c.in_ok-estimates_of.field-0) (option_map view c.in_ok-workers_of.field-0) (option_map view c.in_ok-list_of-8.field-0) (option_map view c.in_ok-list_of-9.field-0)
    _ _ _ _ _ _ _ _ _ _ _ _ _ _ _ _ _ _ _ _ _ _ (rw c.mute_reply.ensures at (c.in_ok-put_mute_reply.ensures.put refl)) (rw c.newest_only.ensures at (c.in_ok-put_true.ensures refl)) (c.in_ok-put.ensures refl) (c.in_ok-put_long.ensures.put refl) (c.in_ok-put_text.ensures.put refl) (c.in_ok-put-2.ensures refl)
    (c.in_ok-put_word.ensures.put refl) (rw c.more_slots.ensures at (c.in_ok-put_word-2.ensures.put refl)) (c.in_ok-put-3.ensures refl) (c.in_ok-put-4.ensures refl) (c.in_ok-put-5.ensures refl)
    (c.in_ok-put-6.ensures refl) (c.in_ok-put-7.ensures refl) (c.in_ok-put-8.ensures refl) (c.in_ok-put-9.ensures refl) (c.in_ok-put-10.ensures refl) (c.in_ok-put-11.ensures refl) (c.in_ok-put-12.ensures refl) (c.in_ok-put-13.ensures refl) (c.in_ok-put-14.ensures refl) (c.in_ok-put-15.ensures refl) (c.in_ok-put-16.ensures refl) in
    subst (λ (t : Members). IsFixture t f) (sym whole)
    (fixture_says f (table_view c.args.table.now) (view c.in_ok-uid_of.field-0) (view c.in_ok-languages_of.field-0)
    (option_map view c.in_ok-list_of.field-0) (option_map view c.in_ok-sensors_of.field-0) (option_map view c.in_ok-list_of-2.field-0) (option_map view c.in_ok-list_of-3.field-0) (option_map view c.in_ok-names_of.field-0) (option_map view c.in_ok-list_of-4.field-0) (option_map view c.in_ok-list_of-5.field-0) (option_map view c.in_ok-list_of-6.field-0) (option_map view c.in_ok-list_of-7.field-0) (option_map view c.in_ok-sub_devices_of.field-0) (option_map view c.in_ok-estimates_of.field-0) (option_map view c.in_ok-workers_of.field-0) (option_map view c.in_ok-list_of-8.field-0) (option_map view c.in_ok-list_of-9.field-0)
    can rest.keys rest.counted (λ n same. rest.unit n (rw same made.root) texts.root)
    ((rw c.mute_reply.ensures at c.put_mute_reply.ensures.says) made.binding) (c.in_ok-uid_of.ensures.says can.own) c.put_long.ensures.says (c.put_text.ensures.says texts.boot)
    (c.in_ok-languages_of.ensures.says made.language can.languages)
    slots slots_fit sensors sensors_fit presents courses tests tests_fit statuses statuses_fit lacked lacked_fit own own_fit named named_fit locked locked_fit outcomes outcomes_fit
    (c.in_ok-sub_devices_of.ensures.says can.made texts.sub) (rw c.estimates.ensures at c.in_ok-estimates_of.ensures.says) c.in_ok-workers_of.ensures.says notices notices_fit own_slots)

pub returns-clause-plain : goal.returns-clause-plain
returns-clause-plain c = λ rest.
    let f = c.args.fixture.now in
    let whole = fixture_members f (table_view c.args.table.now) (view c.in_ok-uid_of.field-0) (view c.in_ok-languages_of.field-0)
    (option_map view c.in_ok-list_of.field-0) (option_map view c.in_ok-sensors_of.field-0) (option_map view c.in_ok-list_of-2.field-0) (option_map view c.in_ok-list_of-3.field-0) (option_map view c.in_ok-names_of.field-0) (option_map view c.in_ok-list_of-4.field-0) (option_map view c.in_ok-list_of-5.field-0) (option_map view c.in_ok-list_of-6.field-0) (option_map view c.in_ok-list_of-7.field-0) (option_map view c.in_ok-sub_devices_of.field-0) (option_map view c.in_ok-estimates_of.field-0) (option_map view c.in_ok-workers_of.field-0) (option_map view c.in_ok-list_of-8.field-0) (option_map view c.in_ok-list_of-9.field-0)
    _ _ _ _ _ _ _ _ _ _ _ _ _ _ _ _ _ _ _ _ _ _ (rw c.mute_reply.ensures at (c.in_ok-put_mute_reply.ensures.put refl)) (rw c.newest_only.ensures at (c.in_ok-put_true.ensures refl)) (c.in_ok-put.ensures refl) (c.in_ok-put_long.ensures.put refl) (c.in_ok-put_text.ensures.put refl) (c.in_ok-put-2.ensures refl)
    (c.in_ok-put_word.ensures.put refl) (rw c.more_slots.ensures at (c.in_ok-put_word-2.ensures.put refl)) (c.in_ok-put-3.ensures refl) (c.in_ok-put-4.ensures refl) (c.in_ok-put-5.ensures refl)
    (c.in_ok-put-6.ensures refl) (c.in_ok-put-7.ensures refl) (c.in_ok-put-8.ensures refl) (c.in_ok-put-9.ensures refl) (c.in_ok-put-10.ensures refl) (c.in_ok-put-11.ensures refl) (c.in_ok-put-12.ensures refl) (c.in_ok-put-13.ensures refl) (c.in_ok-put-14.ensures refl) (c.in_ok-put-15.ensures refl) (c.in_ok-put-16.ensures refl) in
    subst (λ (t : Members). IsPlain 5 (table t)) (sym whole)
    (fixture_plain f (table_view c.args.table.now) (view c.in_ok-uid_of.field-0) (view c.in_ok-languages_of.field-0)
    (option_map view c.in_ok-list_of.field-0) (option_map view c.in_ok-sensors_of.field-0) (option_map view c.in_ok-list_of-2.field-0) (option_map view c.in_ok-list_of-3.field-0) (option_map view c.in_ok-names_of.field-0) (option_map view c.in_ok-list_of-4.field-0) (option_map view c.in_ok-list_of-5.field-0) (option_map view c.in_ok-list_of-6.field-0) (option_map view c.in_ok-list_of-7.field-0) (option_map view c.in_ok-sub_devices_of.field-0) (option_map view c.in_ok-estimates_of.field-0) (option_map view c.in_ok-workers_of.field-0) (option_map view c.in_ok-list_of-8.field-0) (option_map view c.in_ok-list_of-9.field-0)
    (deeper 3 5 _ (omega arith) rest)
    (deeper 0 4 _ (omega arith) c.in_ok-uid_of.ensures.plain) (deeper 1 4 _ (omega arith) c.in_ok-languages_of.ensures.plain)
    (deeper_some 2 4 _ (omega arith) (some_plain 2 c.in_ok-list_of.field-0 c.in_ok-list_of.ensures.plain))
    (some_plain 4 c.in_ok-sensors_of.field-0 c.in_ok-sensors_of.ensures.plain)
    (deeper_some 2 4 _ (omega arith) (some_plain 2 c.in_ok-list_of-2.field-0 c.in_ok-list_of-2.ensures.plain))
    (deeper_some 2 4 _ (omega arith) (some_plain 2 c.in_ok-list_of-3.field-0 c.in_ok-list_of-3.ensures.plain))
    (deeper_some 1 4 _ (omega arith) (some_plain 1 c.in_ok-names_of.field-0 c.in_ok-names_of.ensures.plain))
    (some_plain 4 c.in_ok-list_of-4.field-0 c.in_ok-list_of-4.ensures.plain)
    (deeper_some 2 4 _ (omega arith) (some_plain 2 c.in_ok-list_of-5.field-0 c.in_ok-list_of-5.ensures.plain))
    (deeper_some 3 4 _ (omega arith) (some_plain 3 c.in_ok-list_of-6.field-0 c.in_ok-list_of-6.ensures.plain))
    (deeper_some 2 4 _ (omega arith) (some_plain 2 c.in_ok-list_of-7.field-0 c.in_ok-list_of-7.ensures.plain))
    (deeper_some 3 4 _ (omega arith) (some_plain 3 c.in_ok-sub_devices_of.field-0 c.in_ok-sub_devices_of.ensures.plain))
    (deeper_some 1 4 _ (omega arith) (some_plain 1 c.in_ok-estimates_of.field-0 c.in_ok-estimates_of.ensures.plain))
    (deeper_some 1 4 _ (omega arith) (some_plain 1 c.in_ok-workers_of.field-0 c.in_ok-workers_of.ensures.plain))
    (deeper_some 2 4 _ (omega arith) (some_plain 2 c.in_ok-list_of-8.field-0 c.in_ok-list_of-8.ensures.plain))
    (some_plain 4 c.in_ok-list_of-9.field-0 c.in_ok-list_of-9.ensures.plain))
