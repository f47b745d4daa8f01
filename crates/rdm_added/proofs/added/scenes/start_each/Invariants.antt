use Rattle.std.proofs.Common.{◌≡◌, ◌++◌}
use Rattle.rdm_added.specs.Scenes.{scenes_to}
use Rattle.rdm_added.specs.Views.State.{added_entries}
use Rattle.rdm_added.proofs.added.scenes.start_each.Given as goal

-- the scenes so far
abbrev pub invariant-loop-before : goal.invariant-loop-before
invariant-loop-before l = added_entries l.added.items ≡ added_entries l.initial.added.items ++ scenes_to l.def l.before
