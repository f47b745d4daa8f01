use Rattle.std.proofs.Common.{◌≡◌, false, Some, length, inl, arith, ℕ, codes}
use Rattle.arrayvec.specs.declared.array_vec.ArrayVec.{ArrayVec}
use Rattle.toml.specs.Data.{array, get_member}
use Rattle.toml.specs.View.{array_view, table_view}
use Rattle.rdm_fixture.specs.FirstWrong.{AreNamed}
use Rattle.rdm_fixture.specs.Format.{parameter_named}
use Rattle.rdm_fixture.specs.Lists.{EachIs, items_count}
use Rattle.rdm_fixture_keys.specs.Values.{within}
use Rattle.rdm_fixture.proofs.ListEntries.{EachIs-length, found_array}
use Rattle.rdm_fixture_keys.proofs.Readings.{Reads-same}
use Rattle.rdm_fixture.proofs.WrongEntries.{count_items, outside, name_wrong}
use Rattle.rdm_fixture.proofs.profile.added.names.Goals as goal

pub returns-then-len-gt36-clause-read : goal.returns-then-len-gt36-clause-read
returns-then-len-gt36-clause-read c =
    let found : get_member (codes "without") (table_view c.args.table.now) ≡ Some (array (array_view c.in-Array.names)) =
    found_array _ _ _ _ c.find.ensures c.in-Some.is c.in-Array.is in
    λ xs h.
    let count = EachIs-length _ c.in-Array.names.items xs.items (rw found at h.items) in
    let fit = h.fit in
    absurd (omega arith)

pub returns-clause-read : goal.returns-clause-read
returns-clause-read c =
    let found : get_member (codes "without") (table_view c.args.table.now) ≡ Some (array (array_view c.in-Array.names)) =
    found_array _ _ _ _ c.find.ensures c.in-Some.is c.in-Array.is in
    Reads-same {A = ArrayVec ℕ 36 (Unit {0})} (λ ds xs. EachIs (λ d pid. parameter_named d ≡ Some pid) ds xs.items)
    (λ t xs. AreNamed t xs.items) (array_view c.in-Array.names) (table_view c.args.table.now) _
    (λ xs h. let count = EachIs-length _ c.in-Array.names.items xs.items h in record { items = rw found h; enough = omega arith; fit = omega arith })
    (λ xs h. rw found at h.items)
    c.pids_of.ensures.read

pub returns-then-len-gt36-clause-wrong : goal.returns-then-len-gt36-clause-wrong
returns-then-len-gt36-clause-wrong c =
    let found : get_member (codes "without") (table_view c.args.table.now) ≡ Some (array (array_view c.in-Array.names)) =
    found_array _ _ _ _ c.find.ensures c.in-Some.is c.in-Array.is in
    let count : items_count (array_view c.in-Array.names) ≡ length c.in-Array.names.items = count_items c.in-Array.names.items in
    let none : within 0 36 (items_count (array_view c.in-Array.names)) ≡ false =
    outside 0 36 (items_count (array_view c.in-Array.names)) (λ low high. absurd (omega (arith, count, high))) in
    rw found (inl (none, c.at-then-len-gt36.ensures))

pub returns-clause-wrong : goal.returns-clause-wrong
returns-clause-wrong c =
    let found : get_member (codes "without") (table_view c.args.table.now) ≡ Some (array (array_view c.in-Array.names)) =
    found_array _ _ _ _ c.find.ensures c.in-Some.is c.in-Array.is in
    rw found (name_wrong _ (array_view c.in-Array.names) c.pids_of.ensures.read c.pids_of.ensures.wrong)
