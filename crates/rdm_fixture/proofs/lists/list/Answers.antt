use Rattle.std.proofs.Common.{◌≡◌, false, length, Some, inl, arith}
use Rattle.toml.specs.Data.{array, get_member}
use Rattle.toml.specs.View.{array_view, table_view}
use Rattle.arrayvec.specs.declared.array_vec.ArrayVec.{ArrayVec}
use Rattle.rdm_fixture.specs.Lists.{EachIs, Lists, OfTable, items_count}
use Rattle.rdm_fixture_keys.specs.Values.{within}
use Rattle.rdm_fixture.proofs.ListEntries.{EachIs-length, found_array}
use Rattle.rdm_fixture_keys.proofs.Readings.{Reads-same}
use Rattle.rdm_fixture.proofs.WrongEntries.{count_items, outside}
use Rattle.rdm_fixture.proofs.lists.list.Goals as goal
use Rattle.rdm_fixture.proofs.lists.list.Goals.{then-len-least-via-then-len-least, then-len-least-via-else-len-least+then-len}

pub returns-then-len-least-clause-read : goal.returns-then-len-least-clause-read
returns-then-len-least-clause-read g c =
    let found : get_member c.args.key.now (table_view c.args.table.now) ≡ Some (array (array_view c.in-Array.entries)) =
    found_array _ _ _ _ c.find.ensures c.in-Some.is c.in-Array.is in
    λ xs h.
    let items : EachIs (OfTable (g.E.FromEntry.says c.args.slots)) (array_view c.in-Array.entries) xs.items = rw found at h.items in
    let count = EachIs-length _ c.in-Array.entries.items xs.items items in
    let enough = h.enough in
    let fit = h.fit in
    elim c.then-len-least.branch [
      | then-len-least-via-then-len-least w ↦ absurd (omega arith)
      | then-len-least-via-else-len-least+then-len w ↦ absurd (omega arith)
    ]

pub returns-clause-read : goal.returns-clause-read
returns-clause-read g c =
    let found : get_member c.args.key.now (table_view c.args.table.now) ≡ Some (array (array_view c.in-Array.entries)) =
    found_array _ _ _ _ c.find.ensures c.in-Some.is c.in-Array.is in
    Reads-same {A = ArrayVec g.row.E.Denot g.row.N (Unit {0})} (λ ds xs. EachIs (OfTable (g.E.FromEntry.says c.args.slots)) ds xs.items)
    (λ t xs. Lists t c.args.key.now (OfTable (g.E.FromEntry.says c.args.slots)) c.args.least g.row.N xs.items)
    (array_view c.in-Array.entries) (table_view c.args.table.now) _
    (λ xs h. let count = EachIs-length _ c.in-Array.entries.items xs.items h in record { items = rw found h; enough = omega arith; fit = omega arith })
    (λ xs h. rw found at h.items)
    c.entries_of.ensures.read

pub returns-then-len-least-clause-wrong : goal.returns-then-len-least-clause-wrong
returns-then-len-least-clause-wrong g c =
    let found : get_member c.args.key.now (table_view c.args.table.now) ≡ Some (array (array_view c.in-Array.entries)) =
    found_array _ _ _ _ c.find.ensures c.in-Some.is c.in-Array.is in
    let count : items_count (array_view c.in-Array.entries) ≡ length c.in-Array.entries.items = count_items c.in-Array.entries.items in
    let none : within c.args.least g.row.N (items_count (array_view c.in-Array.entries)) ≡ false =
    elim c.then-len-least.branch [
      | then-len-least-via-then-len-least w ↦ outside c.args.least g.row.N (items_count (array_view c.in-Array.entries)) (λ low high. absurd (omega (arith, count, low, high)))
      | then-len-least-via-else-len-least+then-len w ↦ outside c.args.least g.row.N (items_count (array_view c.in-Array.entries)) (λ low high. absurd (omega (arith, count, low, high)))
    ] in
    rw found (inl (none, c.at-then-len-least.ensures))
