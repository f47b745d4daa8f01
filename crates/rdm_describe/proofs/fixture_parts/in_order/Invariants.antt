use Rattle.std.proofs.Common.{◌≡◌, ◌≤◌}
use Rattle.rdm_describe.specs.Parts.{in_order}
use Rattle.rdm_describe.proofs.fixture_parts.in_order.Given as goal

-- how many of those so far are
abbrev pub invariant-loop-n : goal.invariant-loop-n
invariant-loop-n l = record { value : l.run ≡ in_order l.slots l.n; few : l.run ≤ l.n }
