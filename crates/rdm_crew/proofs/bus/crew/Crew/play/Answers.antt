use Rattle.std.proofs.Common.{refl}
use Rattle.rdm_crew.proofs.Playing.{settled_step}
use Rattle.rdm_bus.specs.declared.event.Step.TheVariants as bus
use Rattle.rdm_crew.proofs.Changing.{sent_keeps, drawn_keeps, settled_keeps}
use Rattle.rdm_crew.proofs.bus.crew.Crew.play.Goals as goal

pub returns-in-Settle-clause-played : goal.returns-in-Settle-clause-played
returns-in-Settle-clause-played g c = settled_step c.args.self.now _ c.args.step.now c.in-Settle.empties c.settle.result c.in-Settle.is c.requires.tied c.settle.ensures.same.0 refl refl c.settle.ensures.settled

pub returns-in-Ask-clause-changes : goal.returns-in-Ask-clause-changes
returns-in-Ask-clause-changes g c = sent_keeps (bus.Ask c.in-Ask.command c.in-Ask.fault) c.args.self.now c.send.new.self c.send.result tt c.send.ensures.played c.send.ensures.changes c.requires.changes

pub returns-in-Collect-clause-changes : goal.returns-in-Collect-clause-changes
returns-in-Collect-clause-changes g c =
    sent_keeps (bus.Collect c.in-Collect.fault) c.args.self.now c.send-in-Collect.new.self c.send-in-Collect.result tt c.send-in-Collect.ensures.played c.send-in-Collect.ensures.changes c.requires.changes

pub returns-in-Draw-clause-changes : goal.returns-in-Draw-clause-changes
returns-in-Draw-clause-changes g c = drawn_keeps c.args.self.now c.draw_one.new.self c.draw_one.result c.draw_one.ensures.played c.draw_one.ensures.changes c.requires.changes

pub returns-in-Settle-clause-changes : goal.returns-in-Settle-clause-changes
returns-in-Settle-clause-changes g c = settled_keeps c.args.self.now (record c.args.self.now { desk = c.settle.new.self }) c.settle.result c.settle.ensures.settled refl c.requires.changes
