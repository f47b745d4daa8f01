use Rattle.std.proofs.Common.{ℕ, ◌+◌, ◌-◌, List, [], ◌++◌, take, drop, sym, ap, ◌∙◌}
use Rattle.rdm_added.specs.Map.{Entry}
use Rattle.rdm_added.specs.Spot.{Spot}
use Rattle.rdm_added.specs.Views.State.{common_entries, own_entries}
use Rattle.rdm_saved.specs.SavedText.{kept}
use Rattle.rdm_saved.specs.Views.{number_entries}
use Rattle.rdm_saved.specs.Carrying.{carried_device, root_of}
use Rattle.rdm_saved.proofs.Lists.{drop_drop}
use Rattle.rdm_saved.proofs.Carried.{piece_from, root_carried}
use Rattle.rdm_saved.proofs.carrying.carry_root.Goals as goal

pub returns-clause-root : goal.returns-clause-root
returns-clause-root c =
    let spot : Spot = root_of (kept c.args.profile.now c.args.root.now c.args.own.now []) in
    let image : List ℕ = c.args.image.now in
    let place : ℕ = c.root_place-place.result in
    let t : List ℕ = drop place image in
    let d : List Entry = common_entries c.args.root.now in
    let n : List Entry = take 8 (own_entries c.args.own.now) in
    let common = c.carried_common-common.ensures ∙ ap (λ (s : Spot). carried_device s image d (take (place + 46 - place) t)) c.of_root-here.ensures ∙ ap (carried_device spot image d) (piece_from 46 place image) in
    let numbers = c.carried_numbers-numbers.ensures ∙ ap (λ (s : Spot). carried_device s image n (take (place + 46 + 15 - (place + 46)) (drop (place + 46) image))) c.of_root-here.ensures ∙ ap (carried_device spot image n) (piece_from 15 (place + 46) image ∙ ap (take 15) (sym (drop_drop place 46 image))) in
    root_carried spot image t c.args.root.now c.carried_common-common.result c.args.own.now c.put_into.new.own (number_entries c.carried_numbers-numbers.result) common numbers c.put_into.ensures.numbers c.put_into.ensures.moment
    ∙ ap (λ (k : ℕ). carried_device spot image (d ++ take 10 (own_entries c.args.own.now)) (drop k image)) c.root_place-place.ensures.value
