use Rattle.std.proofs.Common.{ap, refl, codes}
use Rattle.toml.specs.View.{members_view}
use Rattle.rdm_fixture.proofs.WrittenEntries.{test_says, pair_plain}
use Rattle.rdm_fixture.proofs.writing.entries.SelfTestToEntry.to_entry.Goals as goal

pub returns-clause-says : goal.returns-clause-says
returns-clause-says c = λ slots can.
    rw (c.in_ok-put_text.ensures.put refl, c.in_ok-put_byte.ensures.put refl, ap members_view c.new-table.ensures.empty)
    (test_says c.args.self.now can.0.0 can.0.1 (c.put_text.ensures.says can.1))

pub returns-clause-plain : goal.returns-clause-plain
returns-clause-plain c =
    rw (c.in_ok-put_text.ensures.put refl, c.in_ok-put_byte.ensures.put refl, ap members_view c.new-table.ensures.empty)
    (pair_plain (codes "number") c.args.self.now.number c.args.self.now.name)
