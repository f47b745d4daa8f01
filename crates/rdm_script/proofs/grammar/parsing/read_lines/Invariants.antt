use Rattle.std.proofs.Common.{◌≡◌, ◌+◌, ◌*◌, ◌≤◌, ◌++◌, length, take, drop}
use Rattle.std.specs.Option.{option_or}
use Rattle.std.specs.Vec.{vec_capacity, vec_len}
use Rattle.rdm_script.specs.Grammar.{lines_of, said_by, AreSaid}
use Rattle.rdm_script.specs.Search.{most_steps}
use Rattle.rdm_script.specs.StepLines.{step_lines_from, set_line_from, step_lines, setup_line}
use Rattle.rdm_script.specs.Told.{finds_of}
use Rattle.rdm_script.proofs.Lines.{said_from}
use Rattle.rdm_script.proofs.LinesRead.{found_from}
use Rattle.rdm_script.proofs.grammar.parsing.read_lines.Given as goal

abbrev pub invariant-loop-end : goal.invariant-loop-end
invariant-loop-end l = record {
  rest : said_from l.dialect l.begun (lines_of l.rest) ≡ drop l.index (said_by l.dialect (lines_of l.text));
  said : AreSaid (take l.index (said_by l.dialect (lines_of l.text))) l.script.setup l.script.steps.items;
  within : l.index + length l.rest ≤ length l.text;
  len : vec_len l.script.steps ≤ l.index * most_steps l.dialect.spelling;
  room : length (lines_of l.text) * most_steps l.dialect.spelling ≤ vec_capacity l.script.steps;
  lines : l.script.lines.items ++ step_lines_from (l.index + 1) (drop l.index (said_by l.dialect (lines_of l.text))) ≡ step_lines l.dialect l.text;
  lines_len : vec_len l.script.lines ≤ l.index * most_steps l.dialect.spelling;
  lines_room : length (lines_of l.text) * most_steps l.dialect.spelling ≤ vec_capacity l.script.lines;
  finds : found_from l.script.finds (drop l.index (said_by l.dialect (lines_of l.text))) ≡ finds_of l.dialect l.text;
  setup_line : option_or l.script.setup_line (set_line_from (l.index + 1) (drop l.index (said_by l.dialect (lines_of l.text)))) ≡ setup_line l.dialect l.text;
}

abbrev pub decreases-loop-end : goal.decreases-loop-end
decreases-loop-end l = length l.rest
