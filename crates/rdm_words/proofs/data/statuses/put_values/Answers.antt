use Rattle.std.specs.Fmt.{signed_decimal}
use Rattle.std.specs.Int.{w16, cast_signed}
use Rattle.rdm_words.proofs.Reports.{values_put}
use Rattle.rdm_words.proofs.data.statuses.put_values.Goals as goal

pub returns : goal.returns
returns c =
    values_put c.put_signed_word-2.result (signed_decimal (cast_signed w16 c.args.first)) (signed_decimal (cast_signed w16 c.args.second)) _ _ _ _ _
    c.in_ok-push_str.ensures.bytes c.in_ok-put_signed_word.ensures c.in_ok-push_str-2.ensures.bytes c.put_signed_word-2.ensures
