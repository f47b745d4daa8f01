use Rattle.std.proofs.Common.{◌≡◌, ℕ, List, ◌++◌, OnOk, sym, ap, subst, ◌∙◌, arith}
use Rattle.std.specs.Str.{IsAscii}
use Rattle.json.specs.Json.{string}
use Rattle.json.specs.Tree.{json_tokens}
use Rattle.rdm_compare.specs.Lines.{number_word}
use Rattle.rdm_compare.proofs.SavedTokens.{number_ascii}
use Rattle.rdm_compare.proofs.saved_text.put_id.Goals as goal

pub returns-clause-tokens : goal.returns-clause-tokens
returns-clause-tokens c =
    let own = number_word c.args.field c.args.number in
    let same : c.as_slice.result.now ≡ own = c.as_slice.ensures.value ∙ c.in_ok-put_number_of.ensures ∙ ap (λ (front : List ℕ). front ++ own) c.new-word.ensures.items in
    subst (λ (w : List ℕ). OnOk c.put_string.result (c.put_string.new.writer.tokens ≡ c.args.writer.now.tokens ++ json_tokens (string w))) same
    (c.put_string.ensures.tokens (subst (λ (w : List ℕ). IsAscii w) (sym same) (number_ascii c.args.field c.args.number (omega arith))))
