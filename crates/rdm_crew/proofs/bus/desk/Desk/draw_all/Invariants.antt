use Rattle.rdm_crew.specs.Desks.{IsDrawn, IsSameDesk, HaveArrived}
use Rattle.rdm_crew.proofs.bus.desk.Desk.draw_all.Given as goal

-- what was taken has arrived, and nothing else has happened
abbrev pub invariant-loop : goal.invariant-loop
invariant-loop g l =
    (goal.iterator-loop g).can_next l.iterator' × (goal.iterator-loop g).is_finite l.iterator'
    × IsDrawn l.self × HaveArrived l.initial.self l.self × IsSameDesk l.initial.self l.self
