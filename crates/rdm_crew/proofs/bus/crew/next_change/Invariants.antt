use Rattle.std.proofs.Common.{◌≡◌}
use Rattle.rdm_lane.specs.Ends.{IsSameTake}
use Rattle.rdm_lane.specs.Lane.{items_from}
use Rattle.rdm_crew.proofs.bus.crew.next_change.Given as goal

-- no change was taken
abbrev pub invariant-loop : goal.invariant-loop
invariant-loop g l =
    (goal.iterator-loop g).can_next l.iterator' × (goal.iterator-loop g).is_finite l.iterator'
    × (items_from 0 l.changes.taken ≡ items_from 0 l.initial.changes.taken) × IsSameTake l.initial.changes l.changes
