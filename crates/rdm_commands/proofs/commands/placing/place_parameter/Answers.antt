use Rattle.std.proofs.Common.{rules, ◌≡◌, Some}
use Rattle.rdm_profile.specs.Forms.{value_of}
use Rattle.rdm_added.specs.Added.{placed_form}
use Rattle.rdm_commands.proofs.PlacesOwn.{values_are}
use Rattle.rdm_commands.proofs.commands.placing.place_parameter.Goals as goal

pub returns-clause-after : goal.returns-clause-after
returns-clause-after c spot same =
    let value : value_of (placed_form c.args.def.now.shape) c.args.data.now ≡ Some c.in-Some.value = search rules in
    values_are spot c.args.def.now c.args.data.now c.in-Some.value _ _ value same (c.store_placed.ensures.after spot)
