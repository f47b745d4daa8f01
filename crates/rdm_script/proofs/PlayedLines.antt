-- Of a script that is played: its lines, the reason why it isn't played to its end, and the line of a stop.
use Rattle.std.proofs.Common.{◌≡◌, ℕ, ◌+◌, ◌<◌, List, [], ◌∷◌, length, slice_get, get_or, Option, Some, refl, sym, ap, subst, ◌∙◌, arith}
use Rattle.std.specs.List.{flat_map}
use Rattle.std.proofs.lemmas.List.{length-append}
use Rattle.std.proofs.lemmas.List.Concat.{flat_map-cons}
use Rattle.std.proofs.lemmas.Option.{slice_get_within, slice_get-get_or}
use Rattle.rdm_crew.specs.declared.step.CrewStep.{CrewStep}
use Rattle.rdm_crew.specs.declared.stopped.Stopped.{Stopped as Stop}
use Rattle.rdm_crew.specs.declared.stopped.Stopped.TheVariants as stop
use Rattle.rdm_crew.specs.declared.step.CrewStep.TheVariants.{Settle}
use Rattle.rdm_crew.specs.Stops.{IsStopAt, error_of}
use Rattle.rdm_trace.specs.declared.line.Line.{Line as TraceLine}
use Rattle.rdm_trace.specs.LineText.{lines_text}
use Rattle.rdm_script.specs.Dialects.{Dialect}
use Rattle.rdm_script.specs.declared.grammar.line.Line.{Line}
use Rattle.rdm_script.specs.declared.grammar.line.Line.TheVariants.{Skipped, Sets, Says, Finds, Faulty as FaultyLine}
use Rattle.rdm_script.specs.declared.grammar.parsing.ScriptError.{ScriptError}
use Rattle.rdm_script.specs.declared.grammar.parsing.ScriptError.TheVariants as script
use Rattle.rdm_script.specs.declared.playing.Unplayed.{Unplayed}
use Rattle.rdm_script.specs.declared.script.ScriptSetup.{ScriptSetup}
use Rattle.rdm_script.specs.Grammar.{said_by, lines_of, steps_of_line, Refuses}
use Rattle.rdm_script.specs.Playing.{IsPlayOf, IsUnplayed, NamesStopLine, unplayed_script, unplayed_run}
use Rattle.rdm_script.specs.Program.{IsTraceOf}
use Rattle.rdm_script.specs.Running.{Stops}
use Rattle.rdm_script.specs.Scene.{Scene, spoken_at}
use Rattle.rdm_script.specs.Spelling.{IsScript}
use Rattle.rdm_script.specs.StepLines.{step_line, step_lines_from, step_lines, setup_line}
use Rattle.rdm_script.proofs.ScriptSpellings.{script_read}

-- ---- the lines of a trace

-- their text is the trace
pub play_traced : (scene : Scene) (text : List ℕ) (lines : List TraceLine) → IsPlayOf scene text lines → IsTraceOf scene text (lines_text lines)
play_traced scene text lines p = record {
  setup = p.setup;
  steps = p.steps;
  events = p.events;
  spelled = p.spelled;
  good = p.good;
  run = p.run;
  written = ap lines_text p.told;
}

-- ---- the line of each step

one_line : (number : ℕ) (line : Line) → length (step_line number line) ≡ length (steps_of_line line)
one_line number Skipped = refl
one_line number (Sets setup) = refl
one_line number (Says step) = refl
one_line number (Finds device) = refl
one_line number FaultyLine = refl

as_many : (number : ℕ) (said : List Line) → length (step_lines_from number said) ≡ length (flat_map steps_of_line said)
as_many number [] = refl
as_many number (line ∷ more) =
    length-append (step_line number line) (step_lines_from (number + 1) more)
    ∙ ap (λ (n : ℕ). n + length (step_lines_from (number + 1) more)) (one_line number line)
    ∙ ap (λ (n : ℕ). length (steps_of_line line) + n) (as_many (number + 1) more)
    ∙ sym (ap length (flat_map-cons steps_of_line line more) ∙ length-append (steps_of_line line) (flat_map steps_of_line more))

-- a script has a line for each step
a_line_each : (d : Dialect) (text : List ℕ) (setup : ScriptSetup) (steps : List CrewStep) → IsScript d text setup steps → length (step_lines d text) ≡ length steps
a_line_each d text setup steps spelled =
    as_many 1 (said_by d (lines_of text)) ∙ sym (ap length (script_read d text setup steps spelled).says.in_order)

line_there : (d : Dialect) (text : List ℕ) (setup : ScriptSetup) (steps : List CrewStep) (k : ℕ) (step : CrewStep) → IsScript d text setup steps → slice_get steps k ≡ Some step
    → (number : ℕ) × (slice_get (step_lines d text) k ≡ Some number) × (slice_get (step_lines d text) k ≡ Some number)
line_there d text setup steps k step spelled is =
    let within : k < length (step_lines d text) = omega (arith, slice_get_within steps k step is, a_line_each d text setup steps spelled) in
    let there : slice_get (step_lines d text) k ≡ Some (get_or (step_lines d text) k 0) = slice_get-get_or (step_lines d text) k 0 within in
    (get_or (step_lines d text) k 0, there, there)

-- ---- the reason

pub faulty_script : (scene : Scene) (text : List ℕ) (fault : ScriptError) → Refuses (spoken_at scene) fault text → IsUnplayed scene text (unplayed_script fault) × NamesStopLine scene text (unplayed_script fault)
faulty_script scene text script.OutOfMemory h = (tt, tt)
faulty_script scene text script.TooLong h = ((h, λ e. cc), tt)
faulty_script scene text (script.Line number) h = ((h, λ e. cc), tt)

pub stopped_run : (scene : Scene) (text : List ℕ) (setup : ScriptSetup) (steps : List CrewStep) (s : Stop) → IsScript (spoken_at scene) text setup steps → Stops scene (error_of s) setup steps
    → IsUnplayed scene text (unplayed_run (step_lines (spoken_at scene) text) (setup_line (spoken_at scene) text) s)
stopped_run scene text setup steps stop.OutOfMemory spelled because = tt
stopped_run scene text setup steps stop.BadSetup spelled because = (record { setup = setup; steps = steps; spelled = spelled; because = because }, λ e. cc)
stopped_run scene text setup steps (stop.Reserved k) spelled because = (record { setup = setup; steps = steps; spelled = spelled; because = because }, λ e. cc)
stopped_run scene text setup steps (stop.TooLong k) spelled because = (record { setup = setup; steps = steps; spelled = spelled; because = because }, λ e. cc)
stopped_run scene text setup steps (stop.Unsettled k) spelled because = (record { setup = setup; steps = steps; spelled = spelled; because = because }, λ e. cc)

-- ---- the line of a stop

pub stopped_line : (scene : Scene) (text : List ℕ) (setup : ScriptSetup) (steps : List CrewStep) (s : Stop) → IsScript (spoken_at scene) text setup steps → IsStopAt steps s
    → NamesStopLine scene text (unplayed_run (step_lines (spoken_at scene) text) (setup_line (spoken_at scene) text) s)
stopped_line scene text setup steps stop.OutOfMemory spelled at = tt
stopped_line scene text setup steps stop.BadSetup spelled at =
    record { setup = setup; steps = steps; spelled = spelled; stop = stop.BadSetup; at = at; reason = refl; line_is = refl }
stopped_line scene text setup steps (stop.Reserved k) spelled at =
    record { setup = setup; steps = steps; spelled = spelled; stop = stop.Reserved k; at = at; reason = refl; line_is = line_there (spoken_at scene) text setup steps k at.0 spelled at.1.0 }
stopped_line scene text setup steps (stop.TooLong k) spelled at =
    record { setup = setup; steps = steps; spelled = spelled; stop = stop.TooLong k; at = at; reason = refl; line_is = line_there (spoken_at scene) text setup steps k at.0 spelled at.1.0 }
stopped_line scene text setup steps (stop.Unsettled k) spelled at =
    record { setup = setup; steps = steps; spelled = spelled; stop = stop.Unsettled k; at = at; reason = refl; line_is = line_there (spoken_at scene) text setup steps k (Settle at.0) spelled at.1.0 }

-- ---- as it is told

-- what holds of a stop on the lines of the text holds of what is told of it
pub told_stop : (P : Unplayed → Type 0) (lines more : List ℕ) (at other : Option ℕ) (s : Stop) (why : Unplayed) → why ≡ unplayed_run lines at s → lines ≡ more → at ≡ other
    → P (unplayed_run more other s) → P why
told_stop P lines more at other s why is same also h =
    subst P (sym is)
    (subst (λ (ls : List ℕ). P (unplayed_run ls at s)) (sym same)
    (subst (λ (o : Option ℕ). P (unplayed_run more o s)) (sym also) h))
