use Rattle.std.proofs.Common.{◌≡◌, length, codes}
use Rattle.arrayvec.specs.declared.array_vec.ArrayVec.{ArrayVec}
use Rattle.rdm_profile.specs.declared.profile.Slot.{Slot}
use Rattle.toml.specs.Data.{get_member}
use Rattle.toml.specs.View.{table_view}
use Rattle.rdm_fixture_keys.specs.Entries.{IsSlot}
use Rattle.rdm_fixture.specs.Format.{slot_count}
use Rattle.rdm_fixture.specs.Lists.{Lists, OfTable}
use Rattle.rdm_fixture.proofs.ListEntries.{slot_count-of}
use Rattle.rdm_fixture_keys.proofs.Readings.{Reads-ok}
use Rattle.rdm_fixture.proofs.profile.slots.Goals as goal

pub returns-clause-count : goal.returns-clause-count
returns-clause-count c =
    Reads-ok {A = ArrayVec Slot 46 (Unit {0})} (λ t xs. Lists t (codes "slot") (OfTable IsSlot) 0 46 xs.items)
    (λ xs. length xs.items ≡ slot_count (get_member (codes "slot") (table_view c.args.table.now))) (table_view c.args.table.now) _
    (λ xs h. slot_count-of (OfTable IsSlot) _ xs.items h.items) c.list.ensures.read
