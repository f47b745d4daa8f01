use Rattle.std.proofs.Common.{◌≡◌, Some, arith, codes}
use Rattle.toml.specs.Data.{array, get_member}
use Rattle.toml.specs.View.{array_view, table_view}
use Rattle.rdm_fixture.specs.Lists.{OfTable}
use Rattle.rdm_fixture.specs.OwnSlots.{IsMode}
use Rattle.rdm_fixture.proofs.ListEntries.{EachIs-length, found_array}
use Rattle.rdm_fixture.proofs.modes.gathered.Goals as goal

pub modes_of-requires-clause-few : goal.modes_of-requires-clause-few
modes_of-requires-clause-few c =
    let found : get_member (codes "mode") (table_view c.args.table.now) ≡ Some (array (array_view c.in-Array.entries)) =
    found_array _ _ _ _ c.find.ensures c.in-Some.is c.in-Array.is in
    let count = EachIs-length (OfTable IsMode) c.in-Array.entries.items c.requires.0 (rw found at c.requires.1.items) in
    let few = c.requires.1.fit in
    omega (arith, count, few)
