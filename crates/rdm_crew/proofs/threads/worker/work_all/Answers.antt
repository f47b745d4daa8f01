use Rattle.std.proofs.Common.{refl}
use Rattle.rdm_lane.specs.Lane.{items_from}
use Rattle.rdm_crew.specs.Workers.{in_turn}
use Rattle.rdm_crew.proofs.Working.{begins, begun, room, reports_one, marks, ends_without, counted_on, counted_still, given_next}
use Rattle.rdm_crew.proofs.threads.worker.work_all.Goals as goal

pub loop-init : goal.loop-init
loop-init g c = (tt, tt, λ j o given. given, begun (g.P.Part.gives_after c.args.part) c.args.jobs c.args.reports c.requires, begins (in_turn g.P.Part.gives g.P.Part.gives_after c.args.part) c.args.jobs c.args.reports c.requires)

pub put-requires-after_bounds : goal.put-requires-after_bounds
put-requires-after_bounds g c κs within =
    room (in_turn g.P.Part.gives g.P.Part.gives_after c.args.part) c.args.jobs c.args.reports c.loop.jobs c.loop.reports c.loop.invariant.4 c.in-Ok-Item.field-0 c.in-Ok-Item.field-0-0 c.in-Ok-Item.field-0-1 c.in-Ok-Item.job c.in-Ok-Item.field-0-is c.in-Ok-Item.ensures.answer.1

pub loop-preserved-in-Ok : goal.loop-preserved-in-Ok
loop-preserved-in-Ok g c = (
  tt,
  tt,
  λ j o given. c.loop.invariant.2 j o ((c.work-outcome.ensures.same j o).0 given),
  counted_on (in_turn g.P.Part.gives g.P.Part.gives_after c.args.part) (g.P.Part.gives_after c.args.part) (g.P.Part.gives_after c.loop.part) (g.P.Part.gives_after c.work-outcome.new.self) c.args.jobs c.args.reports c.loop.jobs c.loop.reports c.loop.invariant.4 c.in-Ok-Item.field-0 c.in-Ok-Item.field-0-0 c.in-Ok-Item.field-0-1 c.in-Ok-Item.job c.take.new.self c.in-Ok-Item.field-0-is c.in-Ok-Item.ensures.answer.1 c.in-Ok-Item.ensures.answer.0 c.loop.invariant.3 (λ before j o given. c.work-outcome.ensures.later before j o given),
  reports_one (in_turn g.P.Part.gives g.P.Part.gives_after c.args.part) c.args.jobs c.args.reports c.loop.jobs c.loop.reports c.loop.invariant.4 c.in-Ok-Item.field-0 c.in-Ok-Item.field-0-0 c.in-Ok-Item.field-0-1 c.in-Ok-Item.job _ c.take.new.self c.put.new.post c.in-Ok-Item.field-0-is c.in-Ok-Item.ensures.answer.1 c.in-Ok-Item.ensures.answer.0 c.in-Ok.ensures refl (c.loop.invariant.2 c.in-Ok-Item.job c.work-outcome.result c.work-outcome.ensures.gives, given_next (g.P.Part.gives_after c.args.part) (g.P.Part.gives_after c.loop.part) (items_from 0 c.loop.jobs.taken) c.in-Ok-Item.job c.work-outcome.result c.loop.invariant.3 c.work-outcome.ensures.next),
)

pub returns-in-Err-put : goal.returns-in-Err-put
returns-in-Err-put g c =
    ends_without (in_turn g.P.Part.gives g.P.Part.gives_after c.args.part) c.args.jobs c.args.reports c.loop.jobs c.loop.reports c.loop.invariant.4 c.in-Ok-Item.field-0 c.in-Ok-Item.field-0-0 c.in-Ok-Item.field-0-1 c.in-Ok-Item.job c.take.new.self c.put.new.post c.ended.result c.in-Ok-Item.field-0-is c.in-Ok-Item.ensures.answer.1 c.in-Ok-Item.ensures.answer.0 c.in-Err-put.ensures c.ended.ensures.0 c.ended.ensures.1 c.ended.ensures.2

pub loop-preserved-in-Ok-Mark : goal.loop-preserved-in-Ok-Mark
loop-preserved-in-Ok-Mark g c = (
  tt,
  tt,
  c.loop.invariant.2,
  counted_still (in_turn g.P.Part.gives g.P.Part.gives_after c.args.part) (g.P.Part.gives_after c.args.part) (g.P.Part.gives_after c.loop.part) c.args.jobs c.args.reports c.loop.jobs c.loop.reports c.loop.invariant.4 c.in-Ok-Mark.field-0 c.in-Ok-Mark.field-0-0 c.take.new.self c.in-Ok-Mark.field-0-is c.in-Ok-Mark.ensures.answer.0 c.loop.invariant.3,
  marks (in_turn g.P.Part.gives g.P.Part.gives_after c.args.part) c.args.jobs c.args.reports c.loop.jobs c.loop.reports c.loop.invariant.4 c.in-Ok-Mark.field-0 c.in-Ok-Mark.field-0-0 c.take.new.self c.in-Ok-Mark.field-0-is c.in-Ok-Mark.ensures.answer.0,
)
