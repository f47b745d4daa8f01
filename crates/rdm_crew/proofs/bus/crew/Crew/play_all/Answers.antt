use Rattle.rdm_crew.proofs.Playing.{step_done, same_crew}
use Rattle.rdm_crew.proofs.Stopping.{still_none}
use Rattle.rdm_crew.proofs.bus.crew.Crew.play_all.Goals as goal

pub loop-index-preserved : goal.loop-index-preserved
loop-index-preserved g c = (
  c.in-Ok.ensures.played.0,
  c.in-Ok.ensures.changes,
  step_done c.args.steps.now c.loop-index.index _ c.index-steps-index.result c.index-steps-index.is c.loop-index-test.true c.args.self.now.desk c.loop-index.self.desk c.loop-index.invariant.2 c.play.new.self.desk c.loop-index.invariant.4.0 c.in-Ok.ensures.played.1 c.play.ensures.same.0,
  still_none c.args.steps.now c.loop-index.index _ c.index-steps-index.result c.index-steps-index.is c.loop-index-test.true c.loop-index.invariant.3 c.in-Ok.ensures.never_refused,
  same_crew c.args.self.now c.loop-index.self c.play.new.self c.loop-index.invariant.4 c.play.ensures.same,
)
