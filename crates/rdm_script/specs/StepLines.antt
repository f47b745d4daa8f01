-- On which lines of its text a script says its steps and its setup. Lines are counted from 1.
use Rattle.std.specs.Prelude.{ℕ, ◌+◌, List, [], ◌∷◌, ◌++◌, map, Option, Some, None}
use Rattle.std.specs.Option.{option_or}
use Rattle.rdm_script.specs.Dialects.{Dialect}
use Rattle.rdm_script.specs.declared.grammar.line.Line.{Line}
use Rattle.rdm_script.specs.declared.grammar.line.Line.TheVariants.{Skipped, Sets, Says, Finds, Faulty}
use Rattle.rdm_script.specs.Grammar.{steps_of_line, said_by, lines_of}

-- the number of a line, once for each step that it says
abbrev pub step_line : ℕ → Line → List ℕ
step_line number line = map (λ step. number) (steps_of_line line)

-- the number of a line that says a setup
abbrev pub set_line : ℕ → Line → Option ℕ
set_line number Skipped = None
set_line number (Sets setup) = Some number
set_line number (Says step) = None
set_line number (Finds device) = None
set_line number Faulty = None

-- those of all lines, in order, where the first has this number
abbrev pub step_lines_from : ℕ → List Line → List ℕ
step_lines_from number [] = []
step_lines_from number (line ∷ more) = step_line number line ++ step_lines_from (number + 1) more

-- the number of the first that says a setup
abbrev pub set_line_from : ℕ → List Line → Option ℕ
set_line_from number [] = None
set_line_from number (line ∷ more) = option_or (set_line number line) (set_line_from (number + 1) more)

-- The line of each step that a text says, in order: the first is that of step 0.
abbrev pub step_lines : Dialect → List ℕ → List ℕ
step_lines d text = step_lines_from 1 (said_by d (lines_of text))

-- The line of a text that says its setup, if it says one.
abbrev pub setup_line : Dialect → List ℕ → Option ℕ
setup_line d text = set_line_from 1 (said_by d (lines_of text))
