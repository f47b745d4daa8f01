use Rattle.rdm_words.specs.LaidOut.{fields_facts, fields_of}
use Rattle.rdm_words.proofs.LaidOut.{behind_noun, fields_put}
use Rattle.rdm_words.proofs.data.values.put_fitting.Goals as goal

pub returns : goal.returns
returns c =
    behind_noun c.put_fields.result (fields_facts (fields_of c.args.laid) c.args.data.now) c.args.noun.now _ _ _ c.in_ok-put_noun.ensures
    (fields_put c.put_fields.result c.args.data.now c.fields.result.now (fields_of c.args.laid) _ _ c.fields.ensures c.put_fields.ensures)
