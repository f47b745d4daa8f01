use Rattle.std.proofs.Common.{◌≤◌, All, IsTrue, ap, length, refl, option_map, arith}
use Rattle.toml.specs.View.{view, members_view}
use Rattle.rdm_fixture.specs.Describable.{are_printable}
use Rattle.rdm_fixture.specs.Lists.{ListAt, OfTable}
use Rattle.rdm_fixture_keys.specs.Entries.{IsPersonality}
use Rattle.rdm_fixture.proofs.WrittenLists.{some_plain}
use Rattle.rdm_fixture.proofs.WrittenUnits.{unit_says, unit_plain, can_write}
use Rattle.rdm_fixture.proofs.writing.units.unit_table.Goals as goal

pub returns-clause-says : goal.returns-clause-says
returns-clause-says c = λ slots good texts.
    let u = c.args.unit.now in
    let fit : length u.personalities.items ≤ 8 = omega (arith, ap length c.as_slice.ensures.value, c.as_slice.ensures.fits) in
    let can : All (λ m. (m.footprint ≤ slots) × IsTrue (are_printable m.name)) c.as_slice.result.now = rw c.as_slice.ensures.value (can_write slots u good texts) in
    let items : ListAt (OfTable (IsPersonality slots)) (option_map view c.in_ok-personalities.personalities) u.personalities.items =
    rw c.as_slice.ensures.value at (c.in_ok-personalities.ensures.says slots can) in
    rw (
      c.in_ok-put.ensures refl,
      c.in_ok-put_word-2.ensures.put refl,
      c.in_ok-put_text-4.ensures.put refl,
      c.in_ok-put_long.ensures.put refl,
      c.in_ok-put_named_word.ensures.put refl,
      c.in_ok-put_text-3.ensures.put refl,
      c.in_ok-put_text-2.ensures.put refl,
      c.in_ok-put_text.ensures.put refl,
      c.in_ok-put_word.ensures.put refl,
      ap members_view c.new-table.ensures.empty,
    )
    (unit_says slots u (option_map view c.in_ok-personalities.personalities) good fit c.put_word.ensures.says c.put_named_word.ensures.says c.put_long.ensures.says
    (c.put_text.ensures.says texts.model) (c.put_text-2.ensures.says texts.maker) (c.put_text-3.ensures.says texts.label)
    (c.put_text-4.ensures.says texts.software) items)

pub returns-clause-plain : goal.returns-clause-plain
returns-clause-plain c =
    let u = c.args.unit.now in
    rw (
      c.in_ok-put.ensures refl,
      c.in_ok-put_word-2.ensures.put refl,
      c.in_ok-put_text-4.ensures.put refl,
      c.in_ok-put_long.ensures.put refl,
      c.in_ok-put_named_word.ensures.put refl,
      c.in_ok-put_text-3.ensures.put refl,
      c.in_ok-put_text-2.ensures.put refl,
      c.in_ok-put_text.ensures.put refl,
      c.in_ok-put_word.ensures.put refl,
      ap members_view c.new-table.ensures.empty,
    )
    (unit_plain u (option_map view c.in_ok-personalities.personalities) (some_plain 2 c.in_ok-personalities.personalities c.in_ok-personalities.ensures.plain))
