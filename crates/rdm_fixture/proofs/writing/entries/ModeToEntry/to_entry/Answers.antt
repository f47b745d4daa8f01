use Rattle.std.proofs.Common.{◌≤◌, ap, length, option_map, refl, arith}
use Rattle.std.proofs.lemmas.Bool.{and_parts}
use Rattle.std.proofs.lemmas.List.Sums.{AllPass-from_list_all}
use Rattle.toml.specs.View.{view, members_view}
use Rattle.rdm_fixture_keys.specs.Entries.{IsSlot}
use Rattle.rdm_fixture.specs.Describable.{are_printable}
use Rattle.rdm_fixture.specs.Lists.{ListAt, OfTable}
use Rattle.rdm_fixture.proofs.WrittenLists.{some_plain}
use Rattle.rdm_fixture.proofs.WrittenModes.{mode_says, mode_plain}
use Rattle.rdm_fixture.proofs.writing.entries.ModeToEntry.to_entry.Goals as goal

pub returns-clause-says : goal.returns-clause-says
returns-clause-says c = λ slots can.
    let m = c.args.self.now in
    let (name, texts) = and_parts _ _ can.1 in
    let few : length m.slots ≤ 46 = omega (arith, ap length c.as_slice.ensures.value, c.as_slice.ensures.few) in
    let listed : ListAt (OfTable IsSlot) (option_map view c.in_ok-slots.slots) m.slots =
    rw c.as_slice.ensures.value at (c.in_ok-slots.ensures.says 0 (rw c.as_slice.ensures.value (AllPass-from_list_all (λ s. are_printable s.name) m.slots texts))) in
    rw (
      c.in_ok-put.ensures refl,
      c.in_ok-put_byte.ensures.put refl,
      c.in_ok-put_text.ensures.put refl,
      c.in_ok-put_word.ensures.put refl,
      ap members_view c.new-table.ensures.empty,
    )
    (mode_says m (option_map view c.in_ok-slots.slots) can.0 (c.put_text.ensures.says name) c.put_byte.ensures.says listed few)

pub returns-clause-plain : goal.returns-clause-plain
returns-clause-plain c =
    rw (
      c.in_ok-put.ensures refl,
      c.in_ok-put_byte.ensures.put refl,
      c.in_ok-put_text.ensures.put refl,
      c.in_ok-put_word.ensures.put refl,
      ap members_view c.new-table.ensures.empty,
    )
    (mode_plain c.args.self.now (option_map view c.in_ok-slots.slots) (some_plain 2 c.in_ok-slots.slots c.in_ok-slots.ensures.plain))
