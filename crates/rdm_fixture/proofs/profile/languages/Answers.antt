use Rattle.std.proofs.Common.{◌≡◌, ◌≤◌, false, Some, length, inl, arith, ℕ, codes}
use Rattle.std.proofs.lemmas.Bool.Decides.{nat_tests}
use Rattle.arrayvec.specs.declared.array_vec.ArrayVec.{ArrayVec}
use Rattle.toml.specs.Data.{array, get_member}
use Rattle.toml.specs.View.{array_view, table_view}
use Rattle.rdm_fixture.specs.Lists.{EachIs, items_count}
use Rattle.rdm_fixture.specs.Format.{LanguagesAt}
use Rattle.rdm_fixture_keys.specs.Values.{language, within}
use Rattle.rdm_fixture.proofs.ListEntries.{EachIs-length, found_array}
use Rattle.rdm_fixture_keys.proofs.Readings.{Reads-same}
use Rattle.rdm_fixture.proofs.WrongEntries.{count_items, outside, language_wrong}
use Rattle.rdm_fixture.proofs.profile.languages.Goals as goal
use Rattle.rdm_fixture.proofs.profile.languages.Goals.{then-is_empty-via-then-is_empty, then-is_empty-via-else-is_empty+then-len-gt8}

pub returns-then-is_empty-clause-read : goal.returns-then-is_empty-clause-read
returns-then-is_empty-clause-read c =
    let found : get_member (codes "languages") (table_view c.args.table.now) ≡ Some (array (array_view c.in-Array.codes)) =
    found_array _ _ _ _ c.find.ensures c.in-Some.is c.in-Array.is in
    λ xs h.
    let said = rw found at h in
    let count = EachIs-length _ c.in-Array.codes.items xs.items said.2 in
    let enough = said.0 in
    let fit = said.1 in
    elim c.then-is_empty.branch [
      | then-is_empty-via-then-is_empty w ↦
          let none : length c.in-Array.codes.items ≡ 0 = grind (arith, nat_tests, c.is_empty.ensures, w.if-is_empty.true) in absurd (omega arith)
      | then-is_empty-via-else-is_empty+then-len-gt8 w ↦ absurd (omega arith)
    ]

pub returns-clause-read : goal.returns-clause-read
returns-clause-read c =
    let found : get_member (codes "languages") (table_view c.args.table.now) ≡ Some (array (array_view c.in-Array.codes)) =
    found_array _ _ _ _ c.find.ensures c.in-Some.is c.in-Array.is in
    let some : 1 ≤ length c.in-Array.codes.items = grind (arith, nat_tests, c.is_empty.ensures, c.if-is_empty.false) in
    Reads-same {A = ArrayVec ℕ 8 (Unit {0})} (λ ds xs. EachIs (λ d x. language d ≡ Some x) ds xs.items)
    (λ t xs. LanguagesAt (get_member (codes "languages") t) xs.items) (array_view c.in-Array.codes) (table_view c.args.table.now) _
    (λ xs h. let count = EachIs-length _ c.in-Array.codes.items xs.items h in rw found (omega arith, omega arith, h))
    (λ xs h. (rw found at h).2)
    c.languages_of.ensures.read

pub returns-then-is_empty-clause-wrong : goal.returns-then-is_empty-clause-wrong
returns-then-is_empty-clause-wrong c =
    let found : get_member (codes "languages") (table_view c.args.table.now) ≡ Some (array (array_view c.in-Array.codes)) =
    found_array _ _ _ _ c.find.ensures c.in-Some.is c.in-Array.is in
    let count : items_count (array_view c.in-Array.codes) ≡ length c.in-Array.codes.items = count_items c.in-Array.codes.items in
    let none : within 1 8 (items_count (array_view c.in-Array.codes)) ≡ false =
    elim c.then-is_empty.branch [
      | then-is_empty-via-then-is_empty w ↦
          let none : length c.in-Array.codes.items ≡ 0 = grind (arith, nat_tests, c.is_empty.ensures, w.if-is_empty.true) in
          outside 1 8 (items_count (array_view c.in-Array.codes)) (λ low high. absurd (omega (arith, count, low, none)))
      | then-is_empty-via-else-is_empty+then-len-gt8 w ↦
          outside 1 8 (items_count (array_view c.in-Array.codes)) (λ low high. absurd (omega (arith, count, high)))
    ] in
    rw found (inl (none, c.at-then-is_empty.ensures))

pub returns-clause-wrong : goal.returns-clause-wrong
returns-clause-wrong c =
    let found : get_member (codes "languages") (table_view c.args.table.now) ≡ Some (array (array_view c.in-Array.codes)) =
    found_array _ _ _ _ c.find.ensures c.in-Some.is c.in-Array.is in
    rw found (language_wrong _ (array_view c.in-Array.codes) c.languages_of.ensures.read c.languages_of.ensures.wrong)
