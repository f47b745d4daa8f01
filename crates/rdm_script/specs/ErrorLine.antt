-- The line by which the program tells an error on standard error.
use Rattle.std.specs.Prelude.{ℕ, List, Option, Some, None, [], ◌∷◌, ◌++◌, codes, decimal, take}
use Rattle.std.specs.Io.KnownBytes.{Appends}
use Rattle.rdm_crew.specs.declared.error.RunError.{RunError}
use Rattle.rdm_crew.specs.Errors.{error_words as run_words}
use Rattle.rdm_script.specs.declared.grammar.parsing.ScriptError.{ScriptError}
use Rattle.rdm_script.specs.declared.grammar.parsing.ScriptError.TheVariants as script
use Rattle.rdm_script.specs.declared.playing.Unplayed.{Unplayed}
use Rattle.rdm_script.specs.declared.playing.Unplayed.TheVariants as unplayed
use Rattle.rdm_script.specs.declared.program.ProgramError.{ProgramError}
use Rattle.rdm_script.specs.declared.program.ProgramError.TheVariants.{Read, Script, Memory, Run, Write}

-- the words of a fault of the script
abbrev pub script_words : ScriptError → List ℕ
script_words script.OutOfMemory = codes "out of memory"
script_words script.TooLong = codes "script too long"
script_words (script.Line number) = codes "line " ++ decimal number

-- the words of an error; those of a run are rdm_crew's
abbrev pub error_words : ProgramError → List ℕ
error_words Read = codes "read"
error_words (Script e) = script_words e
error_words Memory = codes "out of memory"
error_words (Run e) = codes "run " ++ run_words e
error_words Write = codes "write"

-- the words of a stop, at this line if it is known
abbrev pub stop_words : Option ℕ → RunError → List ℕ
stop_words None e = codes "run " ++ run_words e
stop_words (Some line) e = codes "line " ++ decimal line ++ codes ": run " ++ run_words e

-- the words of why a script isn't played to its end
abbrev pub unplayed_words : Unplayed → List ℕ
unplayed_words unplayed.OutOfMemory = codes "out of memory"
unplayed_words (unplayed.Faulty e) = script_words e
unplayed_words (unplayed.Stopped e line) = stop_words line e

-- The line that tells an error: `error: `, its words, and LF.
abbrev pub error_line : ProgramError → List ℕ
error_line e = codes "error: " ++ error_words e ++ 10 ∷ []

-- What a program that fails so writes on standard error: a front of its line, which is all of it unless the writer failed.
abbrev pub Tells : ProgramError → Option (List ℕ) → Option (List ℕ) → Type 0
Tells e old new = (count : ℕ) × Appends old new (take count (error_line e))
