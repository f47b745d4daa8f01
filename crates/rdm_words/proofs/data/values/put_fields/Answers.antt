use Rattle.std.proofs.Common.{drop, string_bytes, arith}
use Rattle.std.proofs.lemmas.List.{length-drop}
use Rattle.rdm_words.proofs.LaidOut.{said_more, said_whole}
use Rattle.rdm_words.proofs.data.values.put_fields.Goals as goal

pub loop-field-preserved : goal.loop-field-preserved
loop-field-preserved c =
    said_more c.args.data.now c.args.fields.now (string_bytes c.args.text.now) c.loop-field.field-index _ c.loop-field-test.true _ _
    c.in_ok-put_field.ensures c.loop-field.invariant

pub returns : goal.returns
returns c =
    let fields = c.args.fields.now in
    said_whole c.args.data.now fields (string_bytes c.args.text.now) (drop c.loop-field.field-index fields) _
    (omega (arith, length-drop c.loop-field.field-index fields, c.loop-field-test.false)) c.loop-field.invariant
