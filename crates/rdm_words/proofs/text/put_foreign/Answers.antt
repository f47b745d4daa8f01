use Rattle.std.proofs.Common.{◌≡◌, ℕ, List, ◌++◌, OnOk, string_bytes, sym, ap, subst, ◌∙◌}
use Rattle.std.specs.Str.{IsAscii}
use Rattle.rdm_words.specs.Plain.{escaped}
use Rattle.rdm_words.proofs.Plainness.{ascii_escaped}
use Rattle.rdm_words.proofs.text.put_foreign.Goals as goal

pub returns : goal.returns
returns c =
    let bytes = c.args.bytes.now in
    let same : c.as_slice.result.now ≡ escaped bytes = c.as_slice.ensures.value ∙ c.in_ok-put_escaped.ensures ∙ ap (λ (front : List ℕ). front ++ escaped bytes) c.new-shown.ensures.items in
    subst (λ (own : List ℕ). OnOk c.put_ascii.result (string_bytes c.put_ascii.new.text ≡ string_bytes c.args.text.now ++ own)) same
    (c.put_ascii.ensures (subst (λ (own : List ℕ). IsAscii own) (sym same) (ascii_escaped bytes)))
