use Rattle.std.proofs.Common.{◌≡◌, map, replicate}
use Rattle.rdm_added.specs.Parameters.{common_at_start}
use Rattle.rdm_added.specs.Views.State.{common_entries}
use Rattle.rdm_commands.proofs.commands.starting.start_each.Given as goal

abbrev pub invariant-loop : goal.invariant-loop
invariant-loop l = map common_entries l.subs.items ≡ replicate l.counter (common_at_start l.unit)
