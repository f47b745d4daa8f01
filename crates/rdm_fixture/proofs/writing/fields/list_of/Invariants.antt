use Rattle.std.proofs.Common.{take, ℕ, ◌+◌, All}
use Rattle.toml.specs.Data.{array}
use Rattle.toml.specs.View.{items_view}
use Rattle.rdm_fixture.specs.Lists.{EachIs, OfTable}
use Rattle.rdm_fixture.specs.Writing.{IsPlain}
use Rattle.rdm_fixture.proofs.writing.fields.list_of.Given as goal

abbrev pub invariant-loop-item : goal.invariant-loop-item
invariant-loop-item g l = record {
  says : (slots : ℕ) → All (g.E.ToEntry.can slots) l.items → EachIs (OfTable (g.E.ToEntry.says slots)) (items_view l.entries.items) (take l.item-index l.items);
  plain : IsPlain (g.E.ToEntry.deep + 1) (array (items_view l.entries.items));
}
