use Rattle.std.proofs.Common.{◌≡◌, ◌++◌, take}
use Rattle.std.specs.List.{flat_map}
use Rattle.rdm_survey.specs.Json.{cell_tokens}
use Rattle.rdm_survey.proofs.json_text.put_members.Given as goal

abbrev pub invariant-loop-member : goal.invariant-loop-member
invariant-loop-member l = record {
  tokens : l.writer.tokens ≡ l.fn.writer.tokens ++ flat_map cell_tokens (take l.member-index l.members);
  before : l.writer.before ≡ l.fn.writer.before;
}
