use Rattle.std.proofs.Common.{◌≡◌, ◌≤◌, ◌+◌, ◌*◌, ◌++◌, length, take, drop}
use Rattle.std.specs.Prelude.{flat_map}
use Rattle.rdm_outbox.specs.Statuses.{entry_slots, first_asked, others}
use Rattle.rdm_outbox.proofs.showing.show_asked.Given as goal

-- What was said, and what is still to be said of the entries that are left, is the whole; so is what was kept and what is
-- still to be kept. For each entry that may still be shown there is room in the body.
abbrev pub invariant-loop-at : goal.invariant-loop-at
invariant-loop-at l = record {
  said : l.body ++ flat_map entry_slots (first_asked l.room l.ask (drop l.at l.entries)) ≡ flat_map entry_slots (first_asked l.most l.ask l.fn.entries);
  left : take l.kept l.entries ++ others l.room l.ask (drop l.at l.entries) ≡ others l.most l.ask l.fn.entries;
  room : length l.body + 9 * l.room ≡ 9 * l.most;
  kept : l.kept ≤ l.at;
}
