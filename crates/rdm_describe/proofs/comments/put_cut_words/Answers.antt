use Rattle.std.proofs.Common.{codes, decimal, ◌++◌, ℕ, List, ap, ◌∙◌}
use Rattle.rdm_describe.specs.Comments as spec
use Rattle.rdm_describe.proofs.Pieces.{both_put, last_put}
use Rattle.rdm_describe.proofs.comments.put_cut_words.Goals as goal

pub returns : goal.returns
returns c =
    let old = c.args.words.now.items in
    let name = spec.name_of c.args.pid in
    let first = both_put old _ _ name (codes ": the fixture has ") c.in_ok-put_name.ensures c.in_ok-extend_from_slice.ensures.items in
    let second = both_put old _ _ (name ++ codes ": the fixture has ") (decimal c.args.told) first c.in_ok-put_number.ensures in
    let third = both_put old _ _ (name ++ codes ": the fixture has " ++ decimal c.args.told) (codes ", of which the first are here: ") second c.in_ok-extend_from_slice-2.ensures.items in
    last_put c.put_number-2.result old _ c.put_number-2.new.words.items (name ++ codes ": the fixture has " ++ decimal c.args.told ++ codes ", of which the first are here: ")
    (decimal c.args.kept) third c.put_number-2.ensures
