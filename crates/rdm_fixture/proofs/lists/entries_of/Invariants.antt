use Rattle.std.proofs.Common.{◌≡◌, take, length}
use Rattle.toml.specs.View.{items_view}
use Rattle.rdm_fixture.specs.Lists.{EachIs, OfTable}
use Rattle.rdm_fixture.proofs.lists.entries_of.Given as goal

abbrev pub invariant-loop-i : goal.invariant-loop-i
invariant-loop-i g l = record {
  read : EachIs (OfTable (g.E.FromEntry.says l.slots)) (items_view (take l.i l.entries.items)) l.read.items;
  count : length l.read.items ≡ l.i;
}
