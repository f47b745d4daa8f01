use Rattle.std.proofs.Common.{◌≡◌, ◌≤◌}
use Rattle.rdm_describe.specs.Scenes.{fixed_of}
use Rattle.rdm_describe.proofs.scenes.fixed_of.Given as goal

-- how many of those so far can
abbrev pub invariant-loop-n : goal.invariant-loop-n
invariant-loop-n l = record { value : l.run ≡ fixed_of l.answers l.n; few : l.run ≤ l.n }
