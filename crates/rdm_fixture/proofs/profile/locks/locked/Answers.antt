use Rattle.std.proofs.Common.{◌≡◌, ◌≤◌, false, Some, length, inl, arith, ℕ, codes}
use Rattle.std.proofs.lemmas.Bool.Decides.{nat_tests}
use Rattle.arrayvec.specs.declared.array_vec.ArrayVec.{ArrayVec}
use Rattle.toml.specs.Data.{array, get_member}
use Rattle.toml.specs.View.{array_view, table_view}
use Rattle.rdm_fixture.specs.FirstWrong.{AreLocked}
use Rattle.rdm_fixture.specs.Format.{locked_pid}
use Rattle.rdm_fixture.specs.Lists.{EachIs, items_count}
use Rattle.rdm_fixture_keys.specs.Values.{within}
use Rattle.rdm_fixture.proofs.ListEntries.{EachIs-length, found_array}
use Rattle.rdm_fixture_keys.proofs.Readings.{Reads-same}
use Rattle.rdm_fixture.proofs.WrongEntries.{count_items, outside, pid_wrong}
use Rattle.rdm_fixture.proofs.profile.locks.locked.Goals as goal
use Rattle.rdm_fixture.proofs.profile.locks.locked.Goals.{then-is_empty-via-then-is_empty, then-is_empty-via-else-is_empty+then-len-gt64}

pub returns-then-is_empty-clause-read : goal.returns-then-is_empty-clause-read
returns-then-is_empty-clause-read c =
    let found : get_member (codes "parameters") (table_view c.args.table.now) ≡ Some (array (array_view c.in-Array.parameters)) =
    found_array _ _ _ _ c.find.ensures c.in-Some.is c.in-Array.is in
    λ xs h.
    let count = EachIs-length _ c.in-Array.parameters.items xs.items (rw found at h.items) in
    let enough = h.enough in
    let fit = h.fit in
    elim c.then-is_empty.branch [
      | then-is_empty-via-then-is_empty w ↦
          let none : length c.in-Array.parameters.items ≡ 0 = grind (arith, nat_tests, c.is_empty.ensures, w.if-is_empty.true) in absurd (omega arith)
      | then-is_empty-via-else-is_empty+then-len-gt64 w ↦ absurd (omega arith)
    ]

pub returns-clause-read : goal.returns-clause-read
returns-clause-read c =
    let found : get_member (codes "parameters") (table_view c.args.table.now) ≡ Some (array (array_view c.in-Array.parameters)) =
    found_array _ _ _ _ c.find.ensures c.in-Some.is c.in-Array.is in
    let some : 1 ≤ length c.in-Array.parameters.items = grind (arith, nat_tests, c.is_empty.ensures, c.if-is_empty.false) in
    Reads-same {A = ArrayVec ℕ 64 (Unit {0})} (λ ds xs. EachIs (λ d pid. locked_pid d ≡ Some pid) ds xs.items)
    (λ t xs. AreLocked t xs.items) (array_view c.in-Array.parameters) (table_view c.args.table.now) _
    (λ xs h. let count = EachIs-length _ c.in-Array.parameters.items xs.items h in record { items = rw found h; enough = omega arith; fit = omega arith })
    (λ xs h. rw found at h.items)
    c.pids_of.ensures.read

pub returns-then-is_empty-clause-wrong : goal.returns-then-is_empty-clause-wrong
returns-then-is_empty-clause-wrong c =
    let found : get_member (codes "parameters") (table_view c.args.table.now) ≡ Some (array (array_view c.in-Array.parameters)) =
    found_array _ _ _ _ c.find.ensures c.in-Some.is c.in-Array.is in
    let count : items_count (array_view c.in-Array.parameters) ≡ length c.in-Array.parameters.items = count_items c.in-Array.parameters.items in
    let none : within 1 64 (items_count (array_view c.in-Array.parameters)) ≡ false =
    elim c.then-is_empty.branch [
      | then-is_empty-via-then-is_empty w ↦
          let none : length c.in-Array.parameters.items ≡ 0 = grind (arith, nat_tests, c.is_empty.ensures, w.if-is_empty.true) in
          outside 1 64 (items_count (array_view c.in-Array.parameters)) (λ low high. absurd (omega (arith, count, low, none)))
      | then-is_empty-via-else-is_empty+then-len-gt64 w ↦
          outside 1 64 (items_count (array_view c.in-Array.parameters)) (λ low high. absurd (omega (arith, count, high)))
    ] in
    rw found (inl (none, c.at-then-is_empty.ensures))

pub returns-clause-wrong : goal.returns-clause-wrong
returns-clause-wrong c =
    let found : get_member (codes "parameters") (table_view c.args.table.now) ≡ Some (array (array_view c.in-Array.parameters)) =
    found_array _ _ _ _ c.find.ensures c.in-Some.is c.in-Array.is in
    rw found (pid_wrong _ (array_view c.in-Array.parameters) c.pids_of.ensures.read c.pids_of.ensures.wrong)
