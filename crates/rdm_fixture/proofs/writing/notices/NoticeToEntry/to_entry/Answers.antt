use Rattle.std.proofs.Common.{ap, refl, option_map}
use Rattle.toml.specs.View.{view, members_view}
use Rattle.rdm_fixture.proofs.WrittenNotices.{notice_says, notice_plain}
use Rattle.rdm_fixture.proofs.WrittenLists.{some_plain}
use Rattle.rdm_fixture.proofs.writing.notices.NoticeToEntry.to_entry.Goals as goal

pub returns-clause-says : goal.returns-clause-says
returns-clause-says c = λ slots can.
    rw (
      c.in_ok-put_word-4.ensures.put refl,
      c.in_ok-put_word-3.ensures.put refl,
      c.in_ok-put_word-2.ensures.put refl,
      c.in_ok-put_name.ensures refl,
      c.in_ok-put_word.ensures.put refl,
      c.in_ok-put.ensures refl,
      c.in_ok-put_long.ensures.put refl,
      c.name.ensures,
      ap members_view c.new-table.ensures.empty,
    )
    (notice_says c.args.self.now (option_map view c.every_of.result) can c.every_of.ensures.says c.put_long.ensures.says c.put_word-2.ensures.says
    c.put_word-3.ensures.says c.put_word-4.ensures.says)

pub returns-clause-plain : goal.returns-clause-plain
returns-clause-plain c =
    rw (
      c.in_ok-put_word-4.ensures.put refl,
      c.in_ok-put_word-3.ensures.put refl,
      c.in_ok-put_word-2.ensures.put refl,
      c.in_ok-put_name.ensures refl,
      c.in_ok-put_word.ensures.put refl,
      c.in_ok-put.ensures refl,
      c.in_ok-put_long.ensures.put refl,
      c.name.ensures,
      ap members_view c.new-table.ensures.empty,
    )
    (notice_plain c.args.self.now (option_map view c.every_of.result) (some_plain 0 c.every_of.result c.every_of.ensures.plain))
