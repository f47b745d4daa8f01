use Rattle.std.proofs.Common.{codes, decimal, ◌++◌, ℕ, List, ap, ◌∙◌}
use Rattle.rdm_describe.specs.Comments as spec
use Rattle.rdm_describe.proofs.Pieces.{both_put, tail_put}
use Rattle.rdm_describe.proofs.comments.put_sub.Goals as goal

pub returns : goal.returns
returns c =
    let old = c.args.words.now.items in
    let first = both_put old _ _ (codes "sub-device ") (decimal c.args.sub) c.in_ok-extend_from_slice.ensures.items c.in_ok-put_number.ensures in
    tail_put c.extend_from_slice-2.result old _ c.extend_from_slice-2.new.self.items (codes "sub-device " ++ decimal c.args.sub) (codes ": ") first
    c.extend_from_slice-2.ensures.items
