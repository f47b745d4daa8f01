use Rattle.std.proofs.Common.{rules}
use Rattle.rdm_line.proofs.Joinings.{ok_no_err, memory_not_taken}
use Rattle.rdm_line.proofs.Searches.{gap_of, not_there, in_numbers}
use Rattle.rdm_line.proofs.joining.place_for.Goals as goal

pub returns-in-Ok-reserve_exact-clause-place : goal.returns-in-Ok-reserve_exact-clause-place
returns-in-Ok-reserve_exact-clause-place c =
    gap_of c.args.numbers.now.items _ c.binary_search.result c.in-Err.index c.in-Err.is (in_numbers c.args.numbers.now.items c.deref.result.now c.args.uid c.number.result c.binary_search.result c.deref.ensures.value c.number.ensures c.requires c.binary_search.ensures.position)

pub returns-in-Ok-reserve_exact-clause-taken : goal.returns-in-Ok-reserve_exact-clause-taken
returns-in-Ok-reserve_exact-clause-taken c =
    let is = in_numbers c.args.numbers.now.items c.deref.result.now c.args.uid c.number.result c.binary_search.result c.deref.ensures.value c.number.ensures c.requires c.binary_search.ensures.position in
    (λ e. absurd (ok_no_err _ _ e), λ t. absurd (not_there c.args.numbers.now.items c.args.uid c.binary_search.result c.in-Err.index c.in-Err.is c.requires (search rules) is t.1))

pub returns-in-Err-reserve_exact-clause-taken : goal.returns-in-Err-reserve_exact-clause-taken
returns-in-Err-reserve_exact-clause-taken c =
    let is = in_numbers c.args.numbers.now.items c.deref.result.now c.args.uid c.number.result c.binary_search.result c.deref.ensures.value c.number.ensures c.requires c.binary_search.ensures.position in
    (λ e. absurd (memory_not_taken e), λ t. absurd (not_there c.args.numbers.now.items c.args.uid c.binary_search.result c.in-Err.index c.in-Err.is c.requires (search rules) is t.1))
