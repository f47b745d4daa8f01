use Rattle.std.proofs.Common.{◌≡◌, ◌++◌, take}
use Rattle.std.specs.List.{flat_map}
use Rattle.rdm_compare.specs.Saving.{sub_json, value_tokens}
use Rattle.rdm_compare.proofs.saved_text.put_sub_list.Given as goal

abbrev pub invariant-loop-sub : goal.invariant-loop-sub
invariant-loop-sub l = record {
  tokens : l.writer.tokens ≡ l.fn.writer.tokens ++ flat_map (λ s. value_tokens (sub_json s)) (take l.sub-index l.subs);
  before : l.writer.before ≡ l.fn.writer.before;
}
