use Rattle.std.proofs.Common.{length, string_bytes, sym, refl, arith}
use Rattle.std.proofs.lemmas.Bool.{eqb-true, eqb-false}
use Rattle.rdm_words.specs.DataFacts.{languages}
use Rattle.rdm_words.specs.FieldFacts.{as_text}
use Rattle.rdm_words.proofs.Entries.{none_put, first_of}
use Rattle.rdm_words.proofs.LaidOut.{behind_noun, fact_put, words_put}
use Rattle.rdm_words.proofs.data.values.put_languages.Goals as goal

pub returns-then-is_empty : goal.returns-then-is_empty
returns-then-is_empty c =
    none_put (λ letters. as_text letters) 2 c.write.result c.args.data.now _ _ (eqb-true (length c.args.data.now) 0 (sym c.if-is_empty.ensures))
    (words_put c.write.result _ _ _ c.write.ensures.bytes)

pub returns : goal.returns
returns c =
    behind_noun c.put_more_languages.result (languages c.args.data.now) c.args.noun.now (string_bytes c.args.text.now) (string_bytes c.put_noun.new.text)
    (string_bytes c.put_more_languages.new.text) c.in_ok-put_noun.ensures
    (first_of (λ letters. as_text letters) 2 c.put_more_languages.result 2 c.args.data.now _ (string_bytes c.put_quoted.new.text) _ _ _ refl (omega arith)
    (eqb-false (length c.args.data.now) 0 (sym c.if-is_empty.ensures)) c.first_entry.ensures.entry c.first_entry.ensures.rest
    (fact_put _ _ _ c.in_ok-put_quoted.ensures) c.put_more_languages.ensures)
