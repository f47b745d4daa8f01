use Rattle.std.proofs.Common.{codes, decimal, ◌++◌, ℕ, List, ap, ◌∙◌}
use Rattle.rdm_describe.specs.Comments as spec
use Rattle.rdm_describe.proofs.Pieces.{tail_put}
use Rattle.rdm_describe.proofs.comments.put_unread_words.Goals as goal

pub returns : goal.returns
returns c =
    tail_put c.extend_from_slice.result c.args.words.now.items _ c.extend_from_slice.new.self.items (spec.question_words c.args.question)
    (codes " wasn't answered") c.in_ok-put_question.ensures c.extend_from_slice.ensures.items
