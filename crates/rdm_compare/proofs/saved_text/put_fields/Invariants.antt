use Rattle.std.proofs.Common.{◌≡◌, ◌++◌, take}
use Rattle.std.specs.List.{flat_map}
use Rattle.rdm_compare.specs.Fields.{told_in}
use Rattle.rdm_compare.specs.Saving.{members_tokens, told_members}
use Rattle.rdm_compare.proofs.saved_text.put_fields.Given as goal

abbrev pub invariant-loop-field : goal.invariant-loop-field
invariant-loop-field l = record {
  tokens : l.writer.tokens ≡ l.fn.writer.tokens ++ flat_map (λ f. members_tokens (told_members f (told_in f l.kept))) (take l.field-index l.fields);
  before : l.writer.before ≡ l.fn.writer.before;
}
