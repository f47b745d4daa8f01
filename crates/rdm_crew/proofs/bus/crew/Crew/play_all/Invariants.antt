use Rattle.std.proofs.Common.{drop, take}
use Rattle.rdm_crew.specs.Crews.{IsTied, HasChanges, IsSameCrew}
use Rattle.rdm_crew.specs.Stops.{NoneIsRefused}
use Rattle.rdm_crew.proofs.Playing.{IsPlayedSoFar}
use Rattle.rdm_crew.proofs.bus.crew.Crew.play_all.Given as goal

-- the steps so far were played, none of them is refused, and with pieces for the others the events are cut
abbrev pub invariant-loop-index : goal.invariant-loop-index
invariant-loop-index g l =
    IsTied l.self × HasChanges l.self.desk l.self.changes × IsPlayedSoFar l.fn.steps (drop l.index l.fn.steps) l.initial.self.desk l.self.desk × NoneIsRefused (take l.index l.fn.steps) × IsSameCrew l.initial.self l.self
