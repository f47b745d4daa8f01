use Rattle.std.proofs.Common.{◌≡◌, ◌++◌, take}
use Rattle.std.specs.List.{flat_map}
use Rattle.rdm_survey.specs.Json.{row_tokens}
use Rattle.rdm_survey.proofs.json_text.put_rows.Given as goal

abbrev pub invariant-loop-row : goal.invariant-loop-row
invariant-loop-row l = record {
  tokens : l.writer.tokens ≡ l.fn.writer.tokens ++ flat_map (row_tokens l.clashes) (take l.row-index l.rows);
  before : l.writer.before ≡ l.fn.writer.before;
}
