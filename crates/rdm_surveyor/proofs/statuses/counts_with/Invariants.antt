use Rattle.std.specs.Prelude.{◌≡◌, ◌+◌}
use Rattle.rdm_surveyor.specs.Statuses.{errors_in, held, warnings_in}
use Rattle.rdm_surveyor.proofs.statuses.counts_with.Given as goal

abbrev pub invariant-loop-index : goal.invariant-loop-index
invariant-loop-index l =
    (l.sum.errors ≡ held (l.fn.counts.errors + errors_in l.body l.index)) × (l.sum.warnings ≡ held (l.fn.counts.warnings + warnings_in l.body l.index))
