use Rattle.std.proofs.Common.{ap, refl}
use Rattle.toml.specs.View.{members_view}
use Rattle.rdm_fixture.proofs.WrittenParameters.{number_says_field, number_plain_field}
use Rattle.rdm_fixture.proofs.writing.parameters.FieldToEntry.to_entry.Goals as goal

pub returns-clause-says : goal.returns-clause-says
returns-clause-says c = λ slots can.
    rw (
      c.in_ok-put_long-3.ensures.put refl,
      c.in_ok-put_long-2.ensures.put refl,
      c.in_ok-put_long.ensures.put refl,
      c.in_ok-put_byte.ensures.put refl,
      ap members_view c.new-table.ensures.empty,
      c.slots_of.ensures,
    )
    (number_says_field c.args.self.now c.put_long.ensures.says c.put_long-2.ensures.says c.put_long-3.ensures.says)

pub returns-clause-plain : goal.returns-clause-plain
returns-clause-plain c =
    rw (
      c.in_ok-put_long-3.ensures.put refl,
      c.in_ok-put_long-2.ensures.put refl,
      c.in_ok-put_long.ensures.put refl,
      c.in_ok-put_byte.ensures.put refl,
      ap members_view c.new-table.ensures.empty,
      c.slots_of.ensures,
    )
    (number_plain_field c.args.self.now)
