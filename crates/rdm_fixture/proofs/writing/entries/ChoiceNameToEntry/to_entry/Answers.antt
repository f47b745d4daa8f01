use Rattle.std.proofs.Common.{ap, pos, refl}
use Rattle.toml.specs.Data.{integer}
use Rattle.toml.specs.View.{members_view}
use Rattle.rdm_fixture.proofs.Made.{number_range}
use Rattle.rdm_fixture.proofs.WrittenEntries.{choice_says, choice_plain}
use Rattle.rdm_fixture.proofs.writing.entries.ChoiceNameToEntry.to_entry.Goals as goal

pub returns-clause-says : goal.returns-clause-says
returns-clause-says c = λ slots can.
    rw (
      c.in_ok-put_text.ensures.put refl,
      c.in_ok-put_long.ensures.put refl,
      c.in_ok-put_byte.ensures.put refl,
      c.in_ok-put_word.ensures.put refl,
      ap members_view c.new-table.ensures.empty,
    )
    (choice_says c.args.self.now can.0
    (number_range 0 0xFF (integer (pos c.args.self.now.number)) c.args.self.now.number c.put_byte.ensures.says).1 c.put_word.ensures.says c.put_long.ensures.says (c.put_text.ensures.says can.1))

pub returns-clause-plain : goal.returns-clause-plain
returns-clause-plain c =
    rw (
      c.in_ok-put_text.ensures.put refl,
      c.in_ok-put_long.ensures.put refl,
      c.in_ok-put_byte.ensures.put refl,
      c.in_ok-put_word.ensures.put refl,
      ap members_view c.new-table.ensures.empty,
    )
    (choice_plain c.args.self.now)
