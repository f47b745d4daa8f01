use Rattle.std.proofs.Common.{codes, decimal, ◌++◌, ℕ, List, ap, ◌∙◌}
use Rattle.rdm_describe.specs.Comments as spec
use Rattle.rdm_describe.proofs.Pieces.{both_put, last_put}
use Rattle.rdm_describe.proofs.comments.put_heading.Goals as goal

pub returns : goal.returns
returns c =
    let old = c.args.text.now.items in
    let head = spec.comment (spec.heading_words c.args.uid) in
    let first = both_put old _ _ head (spec.comment spec.untold_words) c.in_ok-put_first_line.ensures c.in_ok-put_comment.ensures in
    let second = both_put old _ _ (head ++ spec.comment spec.untold_words) (spec.comment spec.unasked_words) first c.in_ok-put_comment-2.ensures in
    last_put c.put_comment-3.result old _ c.put_comment-3.new.text.items (head ++ spec.comment spec.untold_words ++ spec.comment spec.unasked_words)
    (spec.comment spec.unmuted_words) second c.put_comment-3.ensures
