use Rattle.std.proofs.Common.{◌≡◌, length, take}
use Rattle.toml.specs.View.{items_view}
use Rattle.rdm_fixture.specs.Lists.{EachIs, OfTable}
use Rattle.rdm_fixture.specs.OwnSlots.{IsMode}
use Rattle.rdm_fixture.proofs.modes.modes_of.Given as goal

abbrev pub invariant-loop-entry : goal.invariant-loop-entry
invariant-loop-entry l = record {
  read : EachIs (OfTable IsMode) (items_view (take l.entry-index l.entries.items)) l.modes;
  count : length l.modes ≡ l.entry-index;
}
