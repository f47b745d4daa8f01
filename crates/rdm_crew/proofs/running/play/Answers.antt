use Rattle.std.proofs.Common.{sym, subst}
use Rattle.rdm_crew.specs.Stops.{IsStopAt}
use Rattle.rdm_crew.specs.Workers.{in_turn}
use Rattle.rdm_crew.proofs.Changing.{arrived_has}
use Rattle.rdm_crew.proofs.Watching.{same_lane}
use Rattle.rdm_crew.proofs.Runs.{closing_jobs, ended_at}
use Rattle.rdm_crew.proofs.Stopping.{told_at}
use Rattle.rdm_crew.proofs.running.play.Goals as goal

pub finish-requires-clause-jobs : goal.finish-requires-clause-jobs
finish-requires-clause-jobs g c =
    closing_jobs c.play_all-played.new.self c.draw_all.new.self c.close-first.result c.close-second.result c.in-Ok.ensures.played.0 c.draw_all.ensures.same.0 c.in-Ok-draw_all.ensures.drawn.1 c.close-first.ensures c.close-second.ensures

pub returns-in-Ok-draw_all-clause-ended : goal.returns-in-Ok-draw_all-clause-ended
returns-in-Ok-draw_all-clause-ended g c =
    let finished = c.in_ok-finish-in-Ok-draw_all.ensures in
    ended_at c.args.steps.now c.args.crew.desk c.play_all-played.new.self.desk c.draw_all.new.self (in_turn g.P.Part.gives g.P.Part.gives_after c.args.first_worker.part.value) (in_turn g.Q.Part.gives g.Q.Part.gives_after c.args.second_worker.part.value) (g.N.Panel.offers c.args.watcher.panel.value) c.in_ok-finish-in-Ok-draw_all.field-0
    c.requires.new.1 c.play_all-played.ensures.same.0.0 c.draw_all.ensures.same c.in-Ok.ensures.played.1 c.in-Ok-draw_all.ensures.drawn.1 finished.events finished.last finished.first finished.second finished.changes
    finished.recorded finished.handed finished.taken finished.lane

pub finish-requires-clause-changes : goal.finish-requires-clause-changes
finish-requires-clause-changes g c =
    (arrived_has c.play_all-played.new.self.desk c.draw_all.new.self c.play_all-played.new.self.changes c.in-Ok-draw_all.ensures.drawn.1 c.in-Ok.ensures.changes, same_lane c.args.crew.changes c.play_all-played.new.self.changes c.args.watcher.changes.value c.play_all-played.ensures.same.3 c.requires.changes.1)

pub returns-in-Err-clause-stop : goal.returns-in-Err-clause-stop
returns-in-Err-clause-stop g c = subst (IsStopAt c.args.steps.now) (sym c.told.ensures) (told_at c.args.steps.now c.play_all-played.new.self c.in-Err.at c.in-Err.ensures.played)
