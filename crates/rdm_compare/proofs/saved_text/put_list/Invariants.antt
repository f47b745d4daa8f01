use Rattle.std.proofs.Common.{◌≡◌, ◌++◌, take}
use Rattle.std.specs.List.{flat_map}
use Rattle.rdm_compare.specs.Saving.{kept_json, value_tokens}
use Rattle.rdm_compare.proofs.saved_text.put_list.Given as goal

abbrev pub invariant-loop-kept : goal.invariant-loop-kept
invariant-loop-kept l = record {
  tokens : l.writer.tokens ≡ l.fn.writer.tokens ++ flat_map (λ k. value_tokens (kept_json k)) (take l.kept-index l.list);
  before : l.writer.before ≡ l.fn.writer.before;
}
