use Rattle.std.proofs.Common.{ap, pos, refl}
use Rattle.toml.specs.Data.{integer}
use Rattle.toml.specs.View.{members_view}
use Rattle.rdm_fixture.proofs.Made.{number_range}
use Rattle.rdm_fixture.proofs.WrittenEntries.{lock_says, lock_plain}
use Rattle.rdm_fixture.proofs.writing.entries.LockToEntry.to_entry.Goals as goal

pub returns-clause-says : goal.returns-clause-says
returns-clause-says c = λ slots can.
    rw (c.in_ok-put.ensures refl, c.in_ok-put_byte.ensures.put refl, ap members_view c.new-table.ensures.empty)
    (lock_says c.args.self.now _ can (number_range 0 0xFF (integer (pos c.args.self.now.state)) c.args.self.now.state c.put_byte.ensures.says).1 c.in_ok-parameters.ensures.says)

pub returns-clause-plain : goal.returns-clause-plain
returns-clause-plain c =
    rw (c.in_ok-put.ensures refl, c.in_ok-put_byte.ensures.put refl, ap members_view c.new-table.ensures.empty)
    (lock_plain c.args.self.now.state _ c.in_ok-parameters.ensures.plain)
