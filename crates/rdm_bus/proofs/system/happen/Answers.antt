-- What was altered is in vain, and after a poll the collector is where the bus stands.
use Rattle.std.proofs.Common.{◌≢◌, true, false, List, Some, ℕ, ap, subst, ◌∙◌}
use Rattle.rdm_frame.specs.Faults.{raise_of}
use Rattle.rdm_bus.specs.declared.event.StepRef.{StepRef}
use Rattle.rdm_bus.specs.BusRun.{fault_of, transaction, reply_in, after_reply}
use Rattle.rdm_bus.specs.Steps.{step_of}
use Rattle.rdm_collector.specs.Collecting.{State, command_request, poll_request}
use Rattle.rdm_bus.proofs.Systems.{in_vain, poll_ends}
use Rattle.rdm_bus.proofs.system.happen.Goals as goal

pub returns-in-Ok-clause-altered : goal.returns-in-Ok-clause-altered
returns-in-Ok-clause-altered c s messages stands =
    let event = c.carry.ensures.event s.history stands.responder ∙ ap (λ (sent : List ℕ). transaction s.history c.ask.new.self false c.in-Ask.fault sent) c.in-Ok.ensures.sent in
    let raises : raise_of c.in-Ask.fault ≢ Some 0 = subst (λ (step : StepRef). raise_of (fault_of (step_of step)) ≢ Some 0) c.in-Ask.is c.requires.fault in
    in_vain s.history c.ask.new.self false c.in-Ask.fault (command_request c.args.collector.now c.in-Ask.command.now) _ event (c.carry.ensures.fault raises) c.in-Ok.ensures.is_frame c.carry.ensures.slots

pub returns-in-Ok-poll-clause-altered : goal.returns-in-Ok-poll-clause-altered
returns-in-Ok-poll-clause-altered c s messages stands =
    let event = c.carry-in-Ok-poll.ensures.event s.history stands.responder ∙ ap (λ (sent : List ℕ). transaction s.history c.poll.new.self true c.in-Collect.fault sent) c.in-Ok-poll.ensures.sent in
    let raises : raise_of c.in-Collect.fault ≢ Some 0 = subst (λ (step : StepRef). raise_of (fault_of (step_of step)) ≢ Some 0) c.in-Collect.is c.requires.fault in
    in_vain s.history c.poll.new.self true c.in-Collect.fault (poll_request c.args.collector.now) _ event (c.carry-in-Ok-poll.ensures.fault raises) c.in-Ok-poll.ensures.is_frame c.carry-in-Ok-poll.ensures.slots

pub returns-in-Ok-poll-clause-stands : goal.returns-in-Ok-poll-clause-stands
returns-in-Ok-poll-clause-stands c s messages stands =
    let event = c.carry-in-Ok-poll.ensures.event s.history stands.responder ∙ ap (λ (w : State). transaction s.history w true c.in-Collect.fault c.in-Ok-poll.sent) c.in-Ok-poll.ensures.new in
    let is = c.carry-in-Ok-poll.ensures.collector ∙ ap (λ (w : State). after_reply w c.in-Collect.fault (reply_in c.carry-in-Ok-poll.result.event)) c.in-Ok-poll.ensures.new in
    record {
      responder = c.carry-in-Ok-poll.ensures.responder s.history stands.responder;
      collector_is = poll_ends s messages c.args.collector.now c.carry-in-Ok-poll.new.collector c.in-Collect.fault c.in-Ok-poll.sent c.carry-in-Ok-poll.result.event stands.collector_is is event (returns-in-Ok-poll-clause-altered c s messages stands);
    }
