use Rattle.std.proofs.Common.{ap, refl}
use Rattle.toml.specs.View.{members_view}
use Rattle.toml.proofs.Views.{view-Table}
use Rattle.rdm_fixture.proofs.WrittenEntries.{estimates_say, estimates_plain}
use Rattle.rdm_fixture.proofs.writing.tables.estimates_of.Goals as goal

pub returns-clause-says : goal.returns-clause-says
returns-clause-says c =
    rw (
      view-Table c.put_word-4.new.table,
      c.in_ok-put_word-4.ensures.put refl,
      c.in_ok-put_word-3.ensures.put refl,
      c.in_ok-put_word-2.ensures.put refl,
      c.in_ok-put_word.ensures.put refl,
      ap members_view c.new-table.ensures.empty,
    )
    (estimates_say c.args.estimates c.put_word.ensures.says c.put_word-2.ensures.says c.put_word-3.ensures.says c.put_word-4.ensures.says)

pub returns-clause-plain : goal.returns-clause-plain
returns-clause-plain c =
    rw (
      view-Table c.put_word-4.new.table,
      c.in_ok-put_word-4.ensures.put refl,
      c.in_ok-put_word-3.ensures.put refl,
      c.in_ok-put_word-2.ensures.put refl,
      c.in_ok-put_word.ensures.put refl,
      ap members_view c.new-table.ensures.empty,
    )
    (estimates_plain c.args.estimates)
