use Rattle.std.proofs.Common.{ℤ, [], ◌∷◌, OnOk, string_bytes, subst, rules}
use Rattle.std.proofs.lemmas.Int.{to_z-of_z}
use Rattle.std.specs.Fmt.{signed_decimal}
use Rattle.std.specs.Int.{w16, cast_signed, cast_unsigned}
use Rattle.rdm_words.specs.Naming.{AddsNames}
use Rattle.rdm_words.proofs.LaidOut.{measured_fact}
use Rattle.rdm_words.proofs.trace_words.put_reading.Goals as goal

pub returns : goal.returns
returns c =
    subst (λ (z : ℤ). OnOk c.write.result (AddsNames (signed_decimal z ∷ []) (string_bytes c.args.text.now) (string_bytes c.write.new.self)))
    (to_z-of_z w16 c.args.value (search rules))
    (measured_fact c.write.result (signed_decimal (cast_signed w16 (cast_unsigned w16 c.args.value))) _ _ c.write.ensures.bytes)
