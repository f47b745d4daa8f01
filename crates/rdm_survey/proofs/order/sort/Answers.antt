use Rattle.std.proofs.Common.{◌≡◌, rules}
use Rattle.std.specs.Ordering.{is_lt}
use Rattle.std.proofs.lemmas.Fn.{always_returns_same}
use Rattle.rdm_survey.specs.Orders.{row_cmp}
use Rattle.rdm_survey.proofs.Ordering.{ranks}
use Rattle.rdm_survey.proofs.order.sort.Goals as goal

pub returns-clause-sorted : goal.returns-clause-sorted
returns-clause-sorted c =
    c.sort_unstable_by.ensures.sorted (λ a b. is_lt (row_cmp c.args.order a b)) (ranks c.args.order)
    (always_returns_same _ (λ a r. is_lt r ≡ is_lt (row_cmp c.args.order a.0.now a.1.0.now)) _ (λ a r f' k. search rules))
