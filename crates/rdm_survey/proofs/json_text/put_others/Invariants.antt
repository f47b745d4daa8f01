use Rattle.std.proofs.Common.{◌≡◌, ◌++◌, map, take}
use Rattle.rdm_survey.specs.Json.{other_token}
use Rattle.rdm_survey.proofs.json_text.put_others.Given as goal

abbrev pub invariant-loop-other : goal.invariant-loop-other
invariant-loop-other l = record {
  tokens : l.writer.tokens ≡ l.fn.writer.tokens ++ map other_token (take l.other-index l.others);
  before : l.writer.before ≡ l.fn.writer.before;
}
