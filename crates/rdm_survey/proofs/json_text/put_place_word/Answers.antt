use Rattle.std.proofs.Common.{◌≡◌, ℕ, List, [], ◌∷◌, ◌++◌, OnOk, sym, ap, subst, ◌∙◌, arith}
use Rattle.std.specs.Str.{IsAscii}
use Rattle.json.specs.Token.{string}
use Rattle.rdm_survey.specs.Members.{place_word}
use Rattle.rdm_survey.proofs.Ascii.{place_ascii}
use Rattle.rdm_survey.proofs.json_text.put_place_word.Goals as goal

pub returns-clause-tokens : goal.returns-clause-tokens
returns-clause-tokens c =
    let own = place_word c.args.uid c.args.sub in
    let same : c.as_slice.result.now ≡ own = c.as_slice.ensures.value ∙ c.in_ok-put_place.ensures ∙ ap (λ (front : List ℕ). front ++ own) c.new-word.ensures.items in
    subst (λ (w : List ℕ). OnOk c.put_string.result (c.put_string.new.writer.tokens ≡ c.args.writer.now.tokens ++ string w ∷ [])) same
    (c.put_string.ensures.tokens (subst (λ (w : List ℕ). IsAscii w) (sym same) (place_ascii c.args.uid c.args.sub (omega arith))))
