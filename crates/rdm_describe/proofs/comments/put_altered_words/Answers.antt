use Rattle.std.proofs.Common.{codes, decimal, ◌++◌, ℕ, List, ap, ◌∙◌}
use Rattle.rdm_describe.specs.Comments as spec
use Rattle.rdm_describe.specs.Answers.{data_of}
use Rattle.rdm_describe.proofs.Pieces.{both_put, last_same}
use Rattle.rdm_describe.proofs.comments.put_altered_words.Goals as goal

pub returns : goal.returns
returns c =
    let old = c.args.words.now.items in
    let q = c.args.question in
    let words = codes " isn't a text of at most 32 printable characters, and is another one here; it told " in
    let first = both_put old _ _ (spec.question_words q) words c.in_ok-put_question.ensures c.in_ok-extend_from_slice.ensures.items in
    last_same c.put_told.result old _ c.put_told.new.words.items (spec.question_words q ++ words) (spec.told c.data_of.result.now)
    (spec.told (data_of c.args.answers.now q.sub q.pid q.about)) (ap (λ (d : List ℕ). spec.told d) c.data_of.ensures) first c.put_told.ensures
