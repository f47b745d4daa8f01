use Rattle.std.proofs.Common.{◌≡◌, ℕ, List, ◌++◌, OnOk, sym, ap, subst, ◌∙◌}
use Rattle.std.specs.Str.{IsAscii}
use Rattle.json.specs.Json.{string}
use Rattle.json.specs.Tree.{json_tokens}
use Rattle.rdm_survey.specs.Shown.{shown}
use Rattle.rdm_survey.proofs.Ascii.{shown_ascii}
use Rattle.rdm_compare.proofs.saved_text.put_text.Goals as goal

pub returns-clause-tokens : goal.returns-clause-tokens
returns-clause-tokens c =
    let own = shown c.args.text.now in
    let same : c.as_slice.result.now ≡ own = c.as_slice.ensures.value ∙ c.in_ok-put_shown.ensures ∙ ap (λ (front : List ℕ). front ++ own) c.new-word.ensures.items in
    subst (λ (w : List ℕ). OnOk c.put_string.result (c.put_string.new.writer.tokens ≡ c.args.writer.now.tokens ++ json_tokens (string w))) same
    (c.put_string.ensures.tokens (subst (λ (w : List ℕ). IsAscii w) (sym same) (shown_ascii c.args.text.now)))
