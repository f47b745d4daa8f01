use Rattle.std.proofs.Common.{codes, decimal, ◌++◌, ℕ, List, ap, ◌∙◌}
use Rattle.rdm_describe.specs.Comments as spec
use Rattle.rdm_describe.specs.Parts.{info}
use Rattle.rdm_describe.proofs.Pieces.{both_put, last_same}
use Rattle.rdm_describe.proofs.comments.put_different_words.Goals as goal

pub returns : goal.returns
returns c =
    let old = c.args.words.now.items in
    let place = spec.place_of c.args.sub in
    let words = codes "it is another device than sub-device 1, as which it is here, and told " in
    let first = both_put old _ _ place words c.in_ok-put_place.ensures c.in_ok-extend_from_slice.ensures.items in
    last_same c.put_told.result old _ c.put_told.new.words.items (place ++ words) (spec.told c.info.result.now)
    (spec.told (info c.args.answers.now c.args.sub)) (ap (λ (d : List ℕ). spec.told d) c.info.ensures) first c.put_told.ensures
