use Rattle.std.proofs.Common.{◌≡◌, take, get_or, sym}
use Rattle.std.proofs.lemmas.List.{take_all}
use Rattle.toml.proofs.Views.{view-Array}
use Rattle.rdm_fixture.proofs.WrittenLists.{entry_more, plain_more}
use Rattle.rdm_fixture.proofs.writing.fields.list_of.Goals as goal

pub loop-item-preserved : goal.loop-item-preserved
loop-item-preserved g c =
    let here : get_or c.args.items.now c.loop-item.item-index c.item-item.result ≡ c.item-item.result = sym c.item-item.is in
    record {
      says = λ slots can.
          rw c.in_ok-push.ensures.items
          (entry_more (g.E.ToEntry.says slots) c.loop-item.entries.items c.in_ok-to_entry.field-0 c.args.items.now c.loop-item.item-index c.item-item.result
          c.loop-item-test.true here (c.loop-item.invariant.says slots can)
          (c.in_ok-to_entry.ensures.says slots (rw (sym here) (can c.loop-item.item-index c.item-item.result c.loop-item-test.true))));
      plain = rw c.in_ok-push.ensures.items (plain_more g.E.ToEntry.deep c.loop-item.entries.items c.in_ok-to_entry.field-0 c.loop-item.invariant.plain c.in_ok-to_entry.ensures.plain);
    }

pub returns-clause-says : goal.returns-clause-says
returns-clause-says g c = λ slots can.
    let whole : take c.loop-item.item-index c.args.items.now ≡ c.args.items.now = take_all _ _ c.loop-item-test.false in
    rw (view-Array c.loop-item.entries) (rw whole at (c.loop-item.invariant.says slots can))
