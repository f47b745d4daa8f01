use Rattle.std.proofs.Common.{ap, refl, rules}
use Rattle.std.specs.Int.{w16}
use Rattle.std.proofs.lemmas.Int.{to_z-of_z}
use Rattle.toml.specs.View.{members_view}
use Rattle.rdm_fixture.proofs.WrittenEntries.{point_says, point_plain}
use Rattle.rdm_fixture.proofs.writing.sensors.PointToEntry.to_entry.Goals as goal

pub returns-clause-says : goal.returns-clause-says
returns-clause-says c = λ slots can.
    let value = to_z-of_z w16 c.args.self.now.value (search rules) in
    rw (
      c.in_ok-put_signed.ensures.put refl,
      c.in_ok-put_long.ensures.put refl,
      ap members_view c.new-table.ensures.empty,
      value,
    )
    (point_says c.args.self.now c.put_long.ensures.says (rw value at c.put_signed.ensures.says))

pub returns-clause-plain : goal.returns-clause-plain
returns-clause-plain c =
    let value = to_z-of_z w16 c.args.self.now.value (search rules) in
    rw (
      c.in_ok-put_signed.ensures.put refl,
      c.in_ok-put_long.ensures.put refl,
      ap members_view c.new-table.ensures.empty,
      value,
    )
    (point_plain c.args.self.now)
