-- What the lines of a script that was played are; and why it isn't played to its end, and at which line of its text.
use Rattle.std.specs.Prelude.{◌≡◌, ◌≢◌, ℕ, List, slice_get, Option, Some, None}
use Rattle.rdm_bus.specs.declared.event.Event.{Event}
use Rattle.rdm_bus.specs.BusLaws.{recorded}
use Rattle.rdm_crew.specs.declared.error.RunError.{RunError}
use Rattle.rdm_crew.specs.declared.error.RunError.TheVariants as run
use Rattle.rdm_crew.specs.declared.step.CrewStep.{CrewStep}
use Rattle.rdm_crew.specs.declared.stopped.Stopped.{Stopped as Stop}
use Rattle.rdm_crew.specs.declared.stopped.Stopped.TheVariants as stop
use Rattle.rdm_crew.specs.Stops.{IsStopAt, error_of}
use Rattle.rdm_trace.specs.declared.line.Line.{Line}
use Rattle.rdm_script.specs.Dialects.{Dialect}
use Rattle.rdm_script.specs.declared.grammar.parsing.ScriptError.{ScriptError}
use Rattle.rdm_script.specs.declared.grammar.parsing.ScriptError.TheVariants as script
use Rattle.rdm_script.specs.declared.playing.Unplayed.{Unplayed}
use Rattle.rdm_script.specs.declared.playing.Unplayed.TheVariants.{OutOfMemory, Faulty, Stopped}
use Rattle.rdm_script.specs.declared.program.ProgramError.{ProgramError}
use Rattle.rdm_script.specs.declared.program.ProgramError.TheVariants.{Memory}
use Rattle.rdm_script.specs.declared.script.ScriptSetup.{ScriptSetup}
use Rattle.rdm_script.specs.Grammar.{Refuses}
use Rattle.rdm_script.specs.Program.{IsStopped, fault_of_script, fault_of_run}
use Rattle.rdm_script.specs.Running.{IsGood, IsScriptRun}
use Rattle.rdm_script.specs.Scene.{Scene, spoken_at}
use Rattle.rdm_script.specs.Spelling.{IsScript}
use Rattle.rdm_script.specs.Told.{finds_of}
use Rattle.rdm_script.specs.StepLines.{step_lines, setup_line}
use Rattle.rdm_script.specs.RunLines.{trace_lines}

-- The lines tell of what happens when the script that the text is gets played on the device of the scene, which has just been
-- switched on, with its parts and its panel, and of what the controller recorded then; and if the script says a search, of the fixtures
-- that are found.
pub record IsPlayOf (scene : Scene) (text : List ℕ) (lines : List Line) : Type 0 where
  pub setup : ScriptSetup
  pub steps : List CrewStep
  pub events : List Event
  pub spelled : IsScript (spoken_at scene) text setup steps
  pub good : IsGood scene setup
  pub run : IsScriptRun scene setup steps events
  pub told : lines ≡ trace_lines scene.profile.workers (finds_of (spoken_at scene) text) events (recorded events)

-- Why there are no such lines. Want of memory is told as such, and never as a fault of the script or of the run.
abbrev pub IsUnplayed : Scene → List ℕ → Unplayed → Type 0
IsUnplayed scene text OutOfMemory = Unit {0}
IsUnplayed scene text (Faulty e) = Refuses (spoken_at scene) e text × (e ≢ script.OutOfMemory)
IsUnplayed scene text (Stopped e line) = IsStopped scene text e × (e ≢ run.OutOfMemory)

-- The line of a text at which a run of its steps stops, counted from 1: that of the step. A bad setup stops it at the line of
-- the setup, if the text says one; want of memory is of no line.
abbrev pub IsStopLine : Dialect → List ℕ → Stop → Option ℕ → Type 0
IsStopLine d text stop.OutOfMemory line = line ≡ None
IsStopLine d text stop.BadSetup line = line ≡ setup_line d text
IsStopLine d text (stop.Reserved k) line = (number : ℕ) × (line ≡ Some number) × (slice_get (step_lines d text) k ≡ Some number)
IsStopLine d text (stop.TooLong k) line = (number : ℕ) × (line ≡ Some number) × (slice_get (step_lines d text) k ≡ Some number)
IsStopLine d text (stop.Unsettled k) line = (number : ℕ) × (line ≡ Some number) × (slice_get (step_lines d text) k ≡ Some number)

-- The text is a script whose run may stop so, for this reason and at this line.
pub record IsStoppedAt (d : Dialect) (text : List ℕ) (e : RunError) (line : Option ℕ) : Type 0 where
  pub setup : ScriptSetup
  pub steps : List CrewStep
  pub spelled : IsScript d text setup steps
  pub stop : Stop
  pub at : IsStopAt steps stop
  pub reason : e ≡ error_of stop
  pub line_is : IsStopLine d text stop line

-- The line that is told is the one at which the run stops.
abbrev pub NamesStopLine : Scene → List ℕ → Unplayed → Type 0
NamesStopLine scene text OutOfMemory = Unit {0}
NamesStopLine scene text (Faulty e) = Unit {0}
NamesStopLine scene text (Stopped e line) = IsStoppedAt (spoken_at scene) text e line

-- ---- how it is told

-- a fault of the script
abbrev pub unplayed_script : ScriptError → Unplayed
unplayed_script script.OutOfMemory = OutOfMemory
unplayed_script script.TooLong = Faulty script.TooLong
unplayed_script (script.Line number) = Faulty (script.Line number)

-- a stop of a script whose steps are on these lines, and its setup on this one
abbrev pub unplayed_run : List ℕ → Option ℕ → Stop → Unplayed
unplayed_run lines setup stop.OutOfMemory = OutOfMemory
unplayed_run lines setup stop.BadSetup = Stopped run.BadSetup setup
unplayed_run lines setup (stop.Reserved k) = Stopped run.Reserved (slice_get lines k)
unplayed_run lines setup (stop.TooLong k) = Stopped run.TooLong (slice_get lines k)
unplayed_run lines setup (stop.Unsettled k) = Stopped run.Unsettled (slice_get lines k)

-- by a program, which names no line of a stop
abbrev pub fault_of_play : Unplayed → ProgramError
fault_of_play OutOfMemory = Memory
fault_of_play (Faulty e) = fault_of_script e
fault_of_play (Stopped e line) = fault_of_run e
