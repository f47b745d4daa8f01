-- Whether the trace of a script tells which fixtures are found.
use Rattle.std.specs.Prelude.{ℕ, Bool, true, false, List, if◌then◌else◌}
use Rattle.std.specs.List.{list_any}
use Rattle.rdm_script.specs.Dialects.{Dialect}
use Rattle.rdm_script.specs.declared.grammar.line.Line.{Line}
use Rattle.rdm_script.specs.declared.grammar.line.Line.TheVariants.{Skipped, Sets, Says, Finds, Faulty}
use Rattle.rdm_script.specs.Grammar.{said_by, lines_of}
use Rattle.rdm_script.specs.declared.found.Finds.{Finds as WhetherTold}
use Rattle.rdm_script.specs.declared.found.Finds.TheVariants.{Told, Untold}

-- a line says a search
abbrev pub says_find : Line → Bool
says_find Skipped = false
says_find (Sets setup) = false
says_find (Says step) = false
says_find (Finds device) = true
says_find Faulty = false

-- it tells them, if this is so
abbrev pub told_if : Bool → WhetherTold
told_if is_told = if is_told then Told else Untold

-- It does if a line says a search. A strict script says none, and the trace of a friendly one without is that of a strict one.
abbrev pub finds_of : Dialect → List ℕ → WhetherTold
finds_of d text = told_if (list_any says_find (said_by d (lines_of text)))

-- whether it is told once a line more is read
abbrev pub finds_after : WhetherTold → Line → WhetherTold
finds_after finds line = if says_find line then Told else finds
