use Rattle.std.proofs.Common.{◌≡◌, length, max}
use Rattle.rdm_describe.specs.Parts.{most_slots}
use Rattle.rdm_describe.proofs.fixture_parts.most_slots.Given as goal

-- the most of those so far and of those to come
abbrev pub invariant-loop-personality : goal.invariant-loop-personality
invariant-loop-personality l = max l.most (most_slots l.rest) ≡ most_slots l.personalities

abbrev pub decreases-loop-personality : goal.decreases-loop-personality
decreases-loop-personality l = length l.rest
