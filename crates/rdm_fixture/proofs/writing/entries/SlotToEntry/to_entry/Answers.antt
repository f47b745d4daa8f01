use Rattle.std.proofs.Common.{ap, refl}
use Rattle.toml.specs.View.{members_view}
use Rattle.rdm_fixture.proofs.WrittenEntries.{slot_says, slot_plain}
use Rattle.rdm_fixture.proofs.writing.entries.SlotToEntry.to_entry.Goals as goal

pub returns-clause-says : goal.returns-clause-says
returns-clause-says c = λ slots can.
    rw (c.in_ok-put_text.ensures.put refl, c.in_ok-put_byte.ensures.put refl, c.in_ok-put_label.ensures.put refl, c.in_ok-put_named_byte.ensures.put refl, ap members_view c.new-table.ensures.empty)
    (slot_says c.args.self.now c.put_named_byte.ensures.says c.put_label.ensures.says c.put_byte.ensures.says (c.put_text.ensures.says can))

pub returns-clause-plain : goal.returns-clause-plain
returns-clause-plain c =
    rw (c.in_ok-put_text.ensures.put refl, c.in_ok-put_byte.ensures.put refl, c.in_ok-put_label.ensures.put refl, c.in_ok-put_named_byte.ensures.put refl, ap members_view c.new-table.ensures.empty)
    (slot_plain c.args.self.now)
