use Rattle.std.proofs.Common.{◌≡◌, ◌++◌}
use Rattle.rdm_profile.proofs.profile.own.grown.Given as goal

-- those that were moved, and then those that weren't
abbrev pub invariant-loop-def : goal.invariant-loop-def
invariant-loop-def l = l.all.items ++ l.def-iterator ≡ l.fn.list.items
