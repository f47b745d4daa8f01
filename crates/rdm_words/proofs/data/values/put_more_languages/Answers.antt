use Rattle.std.proofs.Common.{length, string_bytes, sym, refl, arith}
use Rattle.std.proofs.lemmas.Bool.{eqb-true, eqb-false}
use Rattle.rdm_words.specs.FieldFacts.{as_text}
use Rattle.rdm_words.proofs.Entries.{added_next, added_whole}
use Rattle.rdm_words.proofs.data.values.put_more_languages.Goals as goal

pub loop-rest-preserved : goal.loop-rest-preserved
loop-rest-preserved c =
    added_next (λ letters. as_text letters) 2 2 c.args.data.now (string_bytes c.args.text.now) c.loop-rest.rest.now _ _ _ _ refl (omega arith)
    (eqb-false (length c.loop-rest.rest.now) 0 (sym c.loop-rest-test.ensures)) c.first_entry.ensures.entry c.first_entry.ensures.rest
    c.in_ok-put_next_language.ensures c.loop-rest.invariant

pub returns : goal.returns
returns c =
    added_whole (λ letters. as_text letters) 2 c.args.data.now (string_bytes c.args.text.now) c.loop-rest.rest.now _
    (eqb-true (length c.loop-rest.rest.now) 0 (sym c.loop-rest-test.ensures)) c.loop-rest.invariant
