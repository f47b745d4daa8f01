use Rattle.std.proofs.Common.{◌≡◌}
use Rattle.rdm_describe.specs.Parts.{default_at}
use Rattle.rdm_describe.proofs.fixture_parts.default_at.Given as goal

-- the value of the entries so far
abbrev pub invariant-loop-n : goal.invariant-loop-n
invariant-loop-n l = l.value ≡ default_at l.slots l.slot l.n
