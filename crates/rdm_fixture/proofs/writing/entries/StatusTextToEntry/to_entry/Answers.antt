use Rattle.std.proofs.Common.{ap, refl, codes}
use Rattle.toml.specs.View.{members_view}
use Rattle.rdm_fixture.proofs.WrittenEntries.{status_says, pair_plain}
use Rattle.rdm_fixture.proofs.writing.entries.StatusTextToEntry.to_entry.Goals as goal

pub returns-clause-says : goal.returns-clause-says
returns-clause-says c = λ slots can.
    rw (c.in_ok-put_text.ensures.put refl, c.in_ok-put_word.ensures.put refl, ap members_view c.new-table.ensures.empty)
    (status_says c.args.self.now c.put_word.ensures.says (c.put_text.ensures.says can))

pub returns-clause-plain : goal.returns-clause-plain
returns-clause-plain c =
    rw (c.in_ok-put_text.ensures.put refl, c.in_ok-put_word.ensures.put refl, ap members_view c.new-table.ensures.empty)
    (pair_plain (codes "id") c.args.self.now.id c.args.self.now.text)
