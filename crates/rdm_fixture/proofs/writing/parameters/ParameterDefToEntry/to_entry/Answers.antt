use Rattle.std.proofs.Common.{◌≤◌, ap, length, option_map, refl, sym, arith, rules}
use Rattle.std.specs.Int.{w64}
use Rattle.std.proofs.lemmas.Int.{to_z-of_z}
use Rattle.toml.specs.View.{view, members_view}
use Rattle.rdm_fixture.specs.Lists.{ListAt, OfTable}
use Rattle.rdm_fixture.specs.Parameters.{IsField}
use Rattle.rdm_fixture.proofs.WrittenFixtures.{deeper}
use Rattle.rdm_fixture.proofs.WrittenLists.{some_plain}
use Rattle.rdm_fixture.proofs.WrittenParameters.{parameter_says, parameter_plain, name_stands, start_stands}
use Rattle.rdm_fixture.proofs.writing.parameters.ParameterDefToEntry.to_entry.Goals as goal

pub returns-clause-says : goal.returns-clause-says
returns-clause-says c = λ slots can.
    let d = c.args.self.now in
    let low = to_z-of_z w64 d.low (search rules) in
    let high = to_z-of_z w64 d.high (search rules) in
    let text = c.put_text.ensures.says (name_stands d can.4) in
    let few : length d.fields.items ≤ 8 = omega (arith, ap length c.as_slice.ensures.value, c.as_slice.ensures.fits) in
    let listed : ListAt (OfTable IsField) (option_map view c.in_ok-fields.fields) d.fields.items =
    rw c.as_slice.ensures.value at (c.in_ok-fields.ensures.says 0 (λ k x less. tt)) in
    rw (
      c.in_ok-put_text.ensures.put refl,
      c.in_ok-put_flag.ensures refl,
      c.in_ok-put_named_byte-2.ensures.put refl,
      c.in_ok-put_named_byte.ensures.put refl,
      c.in_ok-put-2.ensures refl,
      c.in_ok-put.ensures refl,
      c.in_ok-put_integer-2.ensures refl,
      c.in_ok-put_integer.ensures refl,
      c.in_ok-put_name-2.ensures refl,
      c.in_ok-put_name.ensures refl,
      c.in_ok-put_word.ensures.put refl,
      ap members_view c.new-table.ensures.empty,
      c.rights_name.ensures,
      c.shape_name.ensures,
      low,
      high,
    )
    (parameter_says d (option_map view c.in_ok-fields.fields) (view c.in_ok-start.start) can.0 can.1 can.2 can.3 can.4 c.put_word.ensures.says c.put_named_byte.ensures.says c.put_named_byte-2.ensures.says text
    listed few (c.in_ok-start.ensures.says d refl (sym c.as_slice-2.ensures.value) can.1 (start_stands d can.4)))

pub returns-clause-plain : goal.returns-clause-plain
returns-clause-plain c =
    let d = c.args.self.now in
    let low = to_z-of_z w64 d.low (search rules) in
    let high = to_z-of_z w64 d.high (search rules) in
    rw (
      c.in_ok-put_text.ensures.put refl,
      c.in_ok-put_flag.ensures refl,
      c.in_ok-put_named_byte-2.ensures.put refl,
      c.in_ok-put_named_byte.ensures.put refl,
      c.in_ok-put-2.ensures refl,
      c.in_ok-put.ensures refl,
      c.in_ok-put_integer-2.ensures refl,
      c.in_ok-put_integer.ensures refl,
      c.in_ok-put_name-2.ensures refl,
      c.in_ok-put_name.ensures refl,
      c.in_ok-put_word.ensures.put refl,
      ap members_view c.new-table.ensures.empty,
      c.rights_name.ensures,
      c.shape_name.ensures,
      low,
      high,
    )
    (parameter_plain d (option_map view c.in_ok-fields.fields) (view c.in_ok-start.start) (some_plain 2 c.in_ok-fields.fields c.in_ok-fields.ensures.plain)
    (deeper 0 2 _ (omega arith) c.in_ok-start.ensures.plain))
