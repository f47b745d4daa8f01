-- What the program makes of its input.
use Rattle.std.specs.Prelude.{◌≡◌, ◌≢◌, ℕ, List, take, Option, IfSome, Result, Ok, Err, ⊤}
use Rattle.std.specs.Io.KnownBytes.{Keeps, Appends}
use Rattle.rdm_bus.specs.declared.event.Event.{Event}
use Rattle.rdm_bus.specs.BusLaws.{recorded}
use Rattle.rdm_crew.specs.declared.error.RunError.{RunError}
use Rattle.rdm_crew.specs.declared.error.RunError.TheVariants as run
use Rattle.rdm_crew.specs.declared.step.CrewStep.{CrewStep}
use Rattle.rdm_trace.specs.LineText.{lines_text}
use Rattle.rdm_script.specs.declared.script.ScriptSetup.{ScriptSetup}
use Rattle.rdm_script.specs.declared.grammar.parsing.ScriptError.{ScriptError}
use Rattle.rdm_script.specs.declared.grammar.parsing.ScriptError.TheVariants as script
use Rattle.rdm_script.specs.declared.program.ProgramError.{ProgramError}
use Rattle.rdm_script.specs.declared.program.ProgramError.TheVariants.{Read, Script, Memory, Run, Write}
use Rattle.rdm_script.specs.Grammar.{Refuses}
use Rattle.rdm_script.specs.Spelling.{IsScript}
use Rattle.rdm_script.specs.Running.{IsGood, IsScriptRun, Stops}
use Rattle.rdm_script.specs.Scene.{Scene, spoken_at}
use Rattle.rdm_script.specs.Told.{finds_of}
use Rattle.rdm_script.specs.RunLines.{trace_lines}

-- The output is the text of what happens when the script that the input is gets played on the device of the scene, which
-- has just been switched on, with its parts and its panel, and of what the controller recorded then; and if the script says a search,
-- of the fixtures that are found.
pub record IsTraceOf (scene : Scene) (input output : List ℕ) : Type 0 where
  pub setup : ScriptSetup
  pub steps : List CrewStep
  pub events : List Event
  pub spelled : IsScript (spoken_at scene) input setup steps
  pub good : IsGood scene setup
  pub run : IsScriptRun scene setup steps events
  pub written : output ≡ lines_text (trace_lines scene.profile.workers (finds_of (spoken_at scene) input) events (recorded events))

-- The input is a script that isn't played to its end, and this is the reason.
pub record IsStopped (scene : Scene) (input : List ℕ) (e : RunError) : Type 0 where
  pub setup : ScriptSetup
  pub steps : List CrewStep
  pub spelled : IsScript (spoken_at scene) input setup steps
  pub because : Stops scene e setup steps

-- Why there is no trace of the input. Want of memory is told as such, and never as a fault of the script or the run.
abbrev pub IsFailure : Scene → ProgramError → List ℕ → Type 0
IsFailure scene Read input = Unit {0}
IsFailure scene (Script e) input = Refuses (spoken_at scene) e input × (e ≢ script.OutOfMemory)
IsFailure scene Memory input = Unit {0}
IsFailure scene (Run e) input = IsStopped scene input e × (e ≢ run.OutOfMemory)
IsFailure scene Write input = Unit {0}

-- What a failure leaves on the output: nothing, but where the writer failed a front of the text.
abbrev pub Leaves : Scene → ProgramError → Option (List ℕ) → Option (List ℕ) → Option (List ℕ) → Type 0
Leaves scene Read input old new = Keeps old new
Leaves scene (Script e) input old new = Keeps old new
Leaves scene Memory input old new = Keeps old new
Leaves scene (Run e) input old new = Keeps old new
Leaves scene Write input old new =
    IfSome input (λ bytes. (text : List ℕ) × (count : ℕ) × IsTraceOf scene bytes text × Appends old new (take count text))

-- the exit status of a program that fails so
abbrev pub status_of : ProgramError → ℕ
status_of (Script e) = 1
status_of Memory = 2
status_of (Run e) = 3
status_of Read = 4
status_of Write = 4

-- the exit status of a program that ends so
abbrev pub outcome_status : Result ⊤ ProgramError → ℕ
outcome_status (Ok done) = 0
outcome_status (Err e) = status_of e

-- how each fault of the script and of the run is told
abbrev pub fault_of_script : ScriptError → ProgramError
fault_of_script script.OutOfMemory = Memory
fault_of_script script.TooLong = Script script.TooLong
fault_of_script (script.Line number) = Script (script.Line number)

abbrev pub fault_of_run : RunError → ProgramError
fault_of_run run.OutOfMemory = Memory
fault_of_run run.Reserved = Run run.Reserved
fault_of_run run.TooLong = Run run.TooLong
fault_of_run run.Unsettled = Run run.Unsettled
fault_of_run run.Astray = Run run.Astray
fault_of_run run.Missing = Run run.Missing
fault_of_run run.BadSetup = Run run.BadSetup
