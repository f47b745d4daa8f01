use Rattle.std.proofs.Common.{refl, sym, ap, subst, ◌∙◌}
use Rattle.rdm_responder.specs.declared.report.Report.{Report}
use Rattle.rdm_bus.specs.BusLaws.{recorded}
use Rattle.rdm_lane.specs.Lane.{LaneLaw}
use Rattle.rdm_lane.specs.Settling.{SettledState}
use Rattle.rdm_crew.specs.declared.stopped.Stopped.TheVariants.{BadSetup}
use Rattle.rdm_crew.specs.Setups.{switched_on, IsBadSetup}
use Rattle.rdm_crew.proofs.Starting.{told_also}
use Rattle.rdm_crew.proofs.Stepping.{bus_of, cut_at, over_at, headline_of_run}
use Rattle.rdm_crew.proofs.Stopping.{stops_reserved, stops_too_long, stops_unsettled, stops_within}
use Rattle.rdm_crew.proofs.running.run_steps.Goals as goal

pub returns-in-Ok-clause-bus : goal.returns-in-Ok-clause-bus
returns-in-Ok-clause-bus g c =
    bus_of (switched_on c.args.setup) c.args.steps.now c.of.result.events
    (cut_at c.args.setup c.args.setup c.args.steps.now c.in-Ok.ended.system.trace c.of.result.events refl c.of.ensures.events c.in-Ok.ensures.ended.trace.cut)

pub returns-in-Ok-clause-laws : goal.returns-in-Ok-clause-laws
returns-in-Ok-clause-laws g c =
    let bus = returns-in-Ok-clause-bus g c in
    c.bus_recording_laws_hold.ensures (switched_on c.args.setup) bus.0 c.of.result.events bus.1

pub returns-in-Ok-clause-headline : goal.returns-in-Ok-clause-headline
returns-in-Ok-clause-headline g c =
    let ended = c.in-Ok.ended in
    let trace = c.of.result in
    let is = c.in-Ok.ensures.ended in
    headline_of_run c.bus_recording_laws_hold.ensures c.messages_are_kept.ensures c.args.setup c.args.steps.now trace.reports.taken trace.events trace.recorded
    (cut_at c.args.setup c.args.setup c.args.steps.now ended.system.trace trace.events refl c.of.ensures.events is.trace.cut)
    (over_at c.args.setup c.args.setup ended.system.trace trace.events ended.reports.taken trace.reports.taken refl c.of.ensures.events (ap (λ (s : SettledState Report). s.taken) c.of.ensures.reports) is.handed)
    (c.of.ensures.recorded ∙ is.collected ∙ ap recorded (sym c.of.ensures.events))

pub returns-in-Ok-clause-lane : goal.returns-in-Ok-clause-lane
returns-in-Ok-clause-lane g c = subst (λ (s : SettledState Report). LaneLaw 2 s.taken s.posted) (sym c.of.ensures.reports) c.in-Ok.ensures.ended.lane

pub returns-in-Err-clause-bad_setup : goal.returns-in-Err-clause-bad_setup
returns-in-Err-clause-bad_setup g c = told_also c.in-Err.stopped BadSetup (IsBadSetup c.args.setup) c.in-Err.ensures.bad_setup

pub returns-in-Err-clause-reserved : goal.returns-in-Err-clause-reserved
returns-in-Err-clause-reserved g c = stops_reserved c.args.steps.now c.in-Err.stopped c.in-Err.ensures.stop

pub returns-in-Err-clause-too_long : goal.returns-in-Err-clause-too_long
returns-in-Err-clause-too_long g c = stops_too_long c.args.steps.now c.in-Err.stopped c.in-Err.ensures.stop

pub returns-in-Err-clause-unsettled : goal.returns-in-Err-clause-unsettled
returns-in-Err-clause-unsettled g c = stops_unsettled c.args.steps.now c.in-Err.stopped c.in-Err.ensures.stop

pub returns-in-Err-clause-within : goal.returns-in-Err-clause-within
returns-in-Err-clause-within g c = stops_within c.args.steps.now c.in-Err.stopped c.in-Err.ensures.stop
