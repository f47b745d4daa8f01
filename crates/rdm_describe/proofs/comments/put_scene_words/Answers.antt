use Rattle.std.proofs.Common.{codes, decimal, ◌++◌, ℕ, List, ap, ◌∙◌}
use Rattle.rdm_describe.specs.Comments as spec
use Rattle.rdm_describe.specs.Scenes.{scene}
use Rattle.rdm_describe.proofs.Pieces.{both_put, last_same}
use Rattle.rdm_describe.proofs.comments.put_scene_words.Goals as goal

pub returns : goal.returns
returns c =
    let old = c.args.words.now.items in
    let name = spec.name_of 0x1042 in
    let words = codes ": scene " in
    let more = codes " starts without what it told: " in
    let first = both_put old _ _ name words c.in_ok-put_name.ensures c.in_ok-extend_from_slice.ensures.items in
    let second = both_put old _ _ (name ++ words) (decimal c.args.number) first c.in_ok-put_number.ensures in
    let third = both_put old _ _ (name ++ words ++ decimal c.args.number) more second c.in_ok-extend_from_slice-2.ensures.items in
    last_same c.put_told.result old _ c.put_told.new.words.items (name ++ words ++ decimal c.args.number ++ more) (spec.told c.scene.result.now)
    (spec.told (scene c.args.answers.now c.args.number)) (ap (λ (d : List ℕ). spec.told d) c.scene.ensures) third c.put_told.ensures
