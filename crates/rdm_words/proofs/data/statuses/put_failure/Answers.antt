use Rattle.std.proofs.Common.{[], ◌∷◌, option_map}
use Rattle.std.specs.Fmt.{signed_decimal}
use Rattle.std.specs.Int.{w16, cast_signed, to_be_bytes}
use Rattle.rdm_frame.specs.Digits.{digits}
use Rattle.rdm_words.proofs.Reports.{failure_put}
use Rattle.rdm_words.proofs.data.statuses.put_failure.Goals as goal

pub returns : goal.returns
returns c =
    failure_put c.put_values.result (option_map (λ name. name.now) c.status_type.result) (digits (c.args.status.now.severity ∷ [])) (digits (to_be_bytes w16 c.args.status.now.id))
    (signed_decimal (cast_signed w16 c.args.status.now.first) ∷ signed_decimal (cast_signed w16 c.args.status.now.second) ∷ []) _ _ _ _ _ c.in_ok-put_named.ensures c.in_ok-push_str.ensures.bytes c.in_ok-put_meaning.ensures c.put_values.ensures
