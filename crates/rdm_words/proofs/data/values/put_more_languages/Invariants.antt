use Rattle.std.proofs.Common.{length, string_bytes}
use Rattle.rdm_words.specs.FieldFacts.{as_text}
use Rattle.rdm_words.proofs.Entries.{AddedBefore}
use Rattle.rdm_words.proofs.data.values.put_more_languages.Given as goal

abbrev pub invariant-loop-rest : goal.invariant-loop-rest
invariant-loop-rest l = AddedBefore (λ letters. as_text letters) 2 l.data (string_bytes l.fn.text) l.rest (string_bytes l.text)

abbrev pub decreases-loop-rest : goal.decreases-loop-rest
decreases-loop-rest l = length l.rest
