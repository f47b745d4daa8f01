-- The trace is one event longer, and both recording laws hold of it, as of every run of the bus.
use Rattle.std.proofs.Common.{List, [], ◌∷◌, ◌++◌, sym, ap, subst, ◌∙◌}
use Rattle.rdm_bus.specs.declared.event.Event.{Event}
use Rattle.rdm_bus.specs.BusLaws.{recorded}
use Rattle.rdm_bus.specs.BusRun.{after_all, IsPlayed}
use Rattle.rdm_bus.specs.Steps.{step_of}
use Rattle.rdm_bus.specs.Systems.{Played, IsTrace}
use Rattle.rdm_bus.proofs.Systems.{trace_more, headline_of_trace}
use Rattle.rdm_bus.proofs.system.System.play_started.Goals as goal

pub returns-clause-trace : goal.returns-clause-trace
returns-clause-trace c start steps trace =
    let before = subst (IsTrace start steps) (sym c.self.view_is) trace in
    let pushed = c.push_reserved.ensures.items ∙ ap (λ (es : List Event). es ++ c.in_ok-made.made.event ∷ []) c.reserve.ensures.items in
    let at = after_all start c.self.inside.trace.items in
    let messages = recorded c.self.inside.trace.items in
    trace_more start steps _ _ (step_of c.args.step.now) c.in_ok-made.made.event before pushed
    (c.in_ok-made.ensures.played at messages before.stands)
    (c.in_ok-made.ensures.stands at messages before.stands)
    (c.in_ok-made.ensures.altered at messages before.stands)

pub returns-clause-laws : goal.returns-clause-laws
returns-clause-laws c start steps trace =
    c.bus_recording_laws_hold.ensures start (steps ++ step_of c.args.step.now ∷ []) _ (returns-clause-trace c start steps trace).run

pub returns-clause-headline : goal.returns-clause-headline
returns-clause-headline c start steps lawful trace =
    headline_of_trace c.headline_holds.ensures start (steps ++ step_of c.args.step.now ∷ []) _ lawful (returns-clause-trace c start steps trace)

pub returns-clause-event : goal.returns-clause-event
returns-clause-event c =
    let pushed = c.push_reserved.ensures.items ∙ ap (λ (es : List Event). es ++ c.in_ok-made.made.event ∷ []) c.reserve.ensures.items in (
      c.in_ok-made.made.event,
      pushed ∙ ap (λ (p : Played). p.trace ++ c.in_ok-made.made.event ∷ []) c.self.view_is,
      λ start steps trace.
          let before = subst (IsTrace start steps) (sym c.self.view_is) trace in
          let at = after_all start c.self.inside.trace.items in
          subst (λ (p : Played). IsPlayed (after_all start p.trace) (step_of c.args.step.now) c.in_ok-made.made.event) c.self.view_is
          (c.in_ok-made.ensures.played at (recorded c.self.inside.trace.items) before.stands),
      c.in_ok-made.ensures.started,
    )
