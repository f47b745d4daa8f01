use Rattle.std.proofs.Common.{drop, string_bytes}
use Rattle.rdm_words.proofs.LaidOut.{SaidBefore}
use Rattle.rdm_words.proofs.data.values.put_fields.Given as goal

abbrev pub invariant-loop-field : goal.invariant-loop-field
invariant-loop-field l = SaidBefore l.data l.fields (string_bytes l.fn.text) (drop l.field-index l.fields) (string_bytes l.text)
