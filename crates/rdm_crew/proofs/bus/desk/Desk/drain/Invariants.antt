use Rattle.std.proofs.Common.{◌≡◌}
use Rattle.rdm_crew.specs.Desks.{IsSuspect, IsSameDesk}
use Rattle.rdm_crew.proofs.bus.desk.Desk.drain.Given as goal

-- the report is still suspected, and nothing has happened
abbrev pub invariant-loop : goal.invariant-loop
invariant-loop g l =
    (goal.iterator-loop g).can_next l.iterator' × (goal.iterator-loop g).is_finite l.iterator'
    × IsSuspect l.self × (l.self.system ≡ l.initial.self.system) × IsSameDesk l.initial.self l.self
