use Rattle.std.proofs.Common.{codes, decimal, ◌++◌, ℕ, List, ap, ◌∙◌}
use Rattle.rdm_describe.specs.Comments as spec
use Rattle.rdm_describe.specs.Drafts.{shown}
use Rattle.rdm_describe.specs.Own.{description}
use Rattle.rdm_describe.proofs.Pieces.{both_put, last_same}
use Rattle.rdm_describe.proofs.comments.put_unsayable_words.Goals as goal

pub returns : goal.returns
returns c =
    let old = c.args.words.now.items in
    let name = spec.name_of c.args.pid in
    let told = spec.told (shown c.args.answers.now c.args.pid) in
    let words = codes " is a parameter of the fixture that isn't here. It told " in
    let more = codes ", and PARAMETER_DESCRIPTION " in
    let first = both_put old _ _ name words c.in_ok-put_name.ensures c.in_ok-extend_from_slice.ensures.items in
    let second = both_put old _ _ (name ++ words) told first c.in_ok-put_shown.ensures in
    let third = both_put old _ _ (name ++ words ++ told) more second c.in_ok-extend_from_slice-2.ensures.items in
    last_same c.put_told.result old _ c.put_told.new.words.items (name ++ words ++ told ++ more) (spec.told c.data_of.result.now)
    (spec.told (description c.args.answers.now c.args.pid)) (ap (λ (d : List ℕ). spec.told d) c.data_of.ensures) third c.put_told.ensures
