use Rattle.std.proofs.Common.{◌≡◌, ◌++◌, drop}
use Rattle.rdm_added.specs.Parameters.{added_at_start}
use Rattle.rdm_added.specs.Views.State.{added_entries}
use Rattle.rdm_added.proofs.state.start_added.Given as goal

abbrev pub invariant-loop-i : goal.invariant-loop-i
invariant-loop-i l = added_entries l.added.items ++ added_at_start (drop l.i l.defs) ≡ added_at_start l.defs
