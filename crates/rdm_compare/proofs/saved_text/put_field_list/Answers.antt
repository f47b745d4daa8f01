use Rattle.std.proofs.Common.{◌≡◌, ◌++◌, List, OnOk, subst}
use Rattle.json.specs.Token.{Token}
use Rattle.rdm_compare.specs.Fields.{fields}
use Rattle.rdm_compare.specs.Saving.{field_list}
use Rattle.rdm_compare.proofs.SavedTokens.{in_fields}
use Rattle.rdm_compare.proofs.saved_text.put_field_list.Goals as goal

pub returns-clause-tokens : goal.returns-clause-tokens
unfolding field_list
returns-clause-tokens c =
    subst (λ (z : List Token). OnOk c.put_fields.result (c.put_fields.new.writer.tokens ≡ c.args.writer.now.tokens ++ z)) (in_fields c.args.kept.now fields)
    c.put_fields.ensures.tokens
