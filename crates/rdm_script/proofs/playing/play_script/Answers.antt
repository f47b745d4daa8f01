use Rattle.std.proofs.Common.{◌≡◌, List, subst, ap, ◌∙◌}
use Rattle.rdm_frame.specs.declared.uid.Uid.{Uid}
use Rattle.rdm_frame.specs.declared.message.Message.{Message}
use Rattle.rdm_profile.specs.declared.profile.own.ParameterDef.{ParameterDef}
use Rattle.rdm_bus.specs.declared.event.Event.{Event}
use Rattle.rdm_bus.specs.BusLaws.{recorded}
use Rattle.rdm_crew.specs.declared.step.CrewStep.{CrewStep}
use Rattle.rdm_crew.specs.Stops.{IsStopAt, error_of}
use Rattle.rdm_script.specs.declared.playing.Unplayed.{Unplayed}
use Rattle.rdm_script.specs.declared.dialect.Spelling.{Spelling}
use Rattle.rdm_script.specs.Dialects.{Dialect}
use Rattle.rdm_script.specs.Playing.{IsPlayOf, IsUnplayed, NamesStopLine}
use Rattle.rdm_script.specs.Running.{IsScriptRun, Stops}
use Rattle.rdm_crew.specs.Workers.{in_turn}
use Rattle.rdm_script.specs.Scene.{scene_of, spoken_at}
use Rattle.rdm_script.specs.Spelling.{IsScript}
use Rattle.rdm_script.specs.StepLines.{step_lines, setup_line}
use Rattle.rdm_script.specs.Told.{finds_of}
use Rattle.rdm_script.proofs.PlayedLines.{play_traced, stopped_run, stopped_line, told_stop}
use Rattle.rdm_script.proofs.playing.play_script.Goals as goal
use Rattle.rdm_script.specs.declared.found.Finds.{Finds}
use Rattle.rdm_script.specs.RunLines.{trace_lines}

abbrev with_own : Uid → Spelling → List ParameterDef → Dialect
with_own device spelling own = record { device = device; spelling = spelling; own = own }

pub returns-in-Ok-clause-ok : goal.returns-in-Ok-clause-ok
returns-in-Ok-clause-ok g c =
    let scene = scene_of (in_turn g.P.Part.gives g.P.Part.gives_after) (in_turn g.Q.Part.gives g.Q.Part.gives_after) g.N.Panel.offers c.args.stage in
    let script = c.in_ok-script.script in
    let ws = c.args.stage.profile.workers in
    let events : List Event = c.in-Ok.trace.events in
    let spelled = subst (λ (ds : List ParameterDef). IsScript (with_own c.args.stage.device c.args.stage.spelling ds) c.args.text.now script.setup script.steps.items) c.own.ensures.value c.in_ok-script.ensures.ok in
    let finds = c.in_ok-script.ensures.finds ∙ ap (λ (ds : List ParameterDef). finds_of (with_own c.args.stage.device c.args.stage.spelling ds) c.args.text.now) c.own.ensures.value in
    let run = subst (λ (ss : List CrewStep). IsScriptRun scene script.setup ss events) c.deref.ensures.value c.in-Ok.ensures.trace in
    record {
      setup = script.setup;
      steps = script.steps.items;
      events = events;
      spelled = spelled;
      good = c.in-Ok.ensures.good;
      run = run;
      told =
          c.in_ok-trace_lines-in-Ok.ensures
          ∙ ap (λ (f : Finds). trace_lines ws f c.events.result.now c.recorded.result.now) finds
          ∙ ap (λ (es : List Event). trace_lines ws (finds_of (spoken_at scene) c.args.text.now) es c.recorded.result.now) c.events.ensures
          ∙ ap (λ (ms : List Message). trace_lines ws (finds_of (spoken_at scene) c.args.text.now) events ms) (c.recorded.ensures ∙ c.in-Ok.ensures.recorded);
    }

pub returns-in-Ok-clause-trace : goal.returns-in-Ok-clause-trace
returns-in-Ok-clause-trace g c =
    let scene = scene_of (in_turn g.P.Part.gives g.P.Part.gives_after) (in_turn g.Q.Part.gives g.Q.Part.gives_after) g.N.Panel.offers c.args.stage in
    play_traced scene c.args.text.now c.in_ok-trace_lines-in-Ok.field-0.items (returns-in-Ok-clause-ok g c)

pub returns-clause-err : goal.returns-clause-err
returns-clause-err g c =
    let scene = scene_of (in_turn g.P.Part.gives g.P.Part.gives_after) (in_turn g.Q.Part.gives g.Q.Part.gives_after) g.N.Panel.offers c.args.stage in
    let script = c.in_ok-script.script in
    let own = c.own.ensures.value in
    let spelled = subst (λ (ds : List ParameterDef). IsScript (with_own c.args.stage.device c.args.stage.spelling ds) c.args.text.now script.setup script.steps.items) own c.in_ok-script.ensures.ok in
    let lines = c.in_ok-script.ensures.lines ∙ ap (λ (ds : List ParameterDef). step_lines (with_own c.args.stage.device c.args.stage.spelling ds) c.args.text.now) own in
    let setup = c.in_ok-script.ensures.setup_line ∙ ap (λ (ds : List ParameterDef). setup_line (with_own c.args.stage.device c.args.stage.spelling ds) c.args.text.now) own in
    let because = subst (λ (ss : List CrewStep). Stops scene (error_of c.in-Err.stopped) script.setup ss) c.deref.ensures.value c.in-Err.ensures.err in
    told_stop (λ (why : Unplayed). IsUnplayed scene c.args.text.now why) _ _ _ _ c.in-Err.stopped c.stop_in.result c.stop_in.ensures lines setup
    (stopped_run scene c.args.text.now script.setup script.steps.items c.in-Err.stopped spelled because)

pub returns-clause-line : goal.returns-clause-line
returns-clause-line g c =
    let scene = scene_of (in_turn g.P.Part.gives g.P.Part.gives_after) (in_turn g.Q.Part.gives g.Q.Part.gives_after) g.N.Panel.offers c.args.stage in
    let script = c.in_ok-script.script in
    let own = c.own.ensures.value in
    let spelled = subst (λ (ds : List ParameterDef). IsScript (with_own c.args.stage.device c.args.stage.spelling ds) c.args.text.now script.setup script.steps.items) own c.in_ok-script.ensures.ok in
    let lines = c.in_ok-script.ensures.lines ∙ ap (λ (ds : List ParameterDef). step_lines (with_own c.args.stage.device c.args.stage.spelling ds) c.args.text.now) own in
    let setup = c.in_ok-script.ensures.setup_line ∙ ap (λ (ds : List ParameterDef). setup_line (with_own c.args.stage.device c.args.stage.spelling ds) c.args.text.now) own in
    let at = subst (λ (ss : List CrewStep). IsStopAt ss c.in-Err.stopped) c.deref.ensures.value c.in-Err.ensures.stop in
    told_stop (λ (why : Unplayed). NamesStopLine scene c.args.text.now why) _ _ _ _ c.in-Err.stopped c.stop_in.result c.stop_in.ensures lines setup
    (stopped_line scene c.args.text.now script.setup script.steps.items c.in-Err.stopped spelled at)
