use Rattle.rdm_commands.specs.declared.jobs.outcome.Outcome.{Outcome}
use Rattle.rdm_outbox.specs.declared.job.Job.{Job}
use Rattle.rdm_lane.specs.Lane.{items_from}
use Rattle.rdm_crew.specs.Workers.{in_turn, IsWorking}
use Rattle.rdm_crew.proofs.Working.{Counts}
use Rattle.rdm_crew.proofs.threads.worker.work_all.Given as goal

-- The part gives what it gave at the start, it counts the jobs that were taken, and there is a report on each of them.
abbrev pub invariant-loop : goal.invariant-loop
invariant-loop g l =
    (goal.iterator-loop g).can_next l.iterator' × (goal.iterator-loop g).is_finite l.iterator'
    × ((j : Job) (o : Outcome) → g.P.Part.gives l.part j o → g.P.Part.gives l.fn.part j o)
    × Counts (g.P.Part.gives_after l.fn.part) (g.P.Part.gives_after l.part) (items_from 0 l.jobs.taken)
    × IsWorking (in_turn g.P.Part.gives g.P.Part.gives_after l.fn.part) l.fn.jobs l.fn.reports l.jobs l.reports
