use Rattle.std.proofs.Common.{◌≡◌, ℕ, List, ◌++◌, OnOk, string_bytes, sym, ap, subst, ◌∙◌, arith}
use Rattle.std.specs.Str.{IsAscii}
use Rattle.rdm_frame.specs.Digits.{digits}
use Rattle.rdm_words.proofs.Fixed.{ascii_hex}
use Rattle.rdm_words.proofs.text.put_hex.Goals as goal

pub returns : goal.returns
returns c =
    let bytes = c.args.bytes.now in
    let same : c.as_slice.result.now ≡ digits bytes = c.as_slice.ensures.value ∙ c.in_ok-put_digits.ensures ∙ ap (λ (front : List ℕ). front ++ digits bytes) c.new-shown.ensures.items in
    subst (λ (own : List ℕ). OnOk c.put_ascii.result (string_bytes c.put_ascii.new.text ≡ string_bytes c.args.text.now ++ own)) same
    (c.put_ascii.ensures (subst (λ (own : List ℕ). IsAscii own) (sym same) (ascii_hex bytes (λ i. omega (arith, c.type_inv.bytes i)))))
