use Rattle.std.proofs.Common.{◌≡◌, ◌++◌, map, List, ap, ◌∙◌}
use Rattle.rdm_added.specs.declared.state.CommonValues.{CommonValues}
use Rattle.rdm_profile.specs.declared.profile.Profile.{Profile}
use Rattle.rdm_device.specs.Device.Blocks.{sub_devices, block_slots}
use Rattle.rdm_added.specs.Parameters.{Parameters}
use Rattle.rdm_added.specs.Views.State.{common_entries, own_entries, added_entries}
use Rattle.rdm_commands.specs.Commands.Commands.{sub_spots}
use Rattle.rdm_commands.proofs.BlockCommands.{block_shows, block_not_told}
use Rattle.rdm_commands.proofs.commands.Devices.get_block.Goals as goal

pub returns-in-Ok-clause-ok : goal.returns-in-Ok-clause-ok
returns-in-Ok-clause-ok c =
    let inside = c.self.inside in
    let now : Parameters = record { profile = inside.profile.value; root = common_entries inside.root ++ own_entries inside.own; added = added_entries inside.own.added.items; subs = map common_entries inside.subs.items } in
    let is : now ≡ c.args.self.now = c.self.view_is in
    let shown : c.block_shown.new.body ≡ block_slots (sub_spots c.args.self.now) =
    c.block_shown.ensures
    ∙ ap (λ (p : Profile). block_slots (sub_devices p (map common_entries c.as_slice.result.now))) c.deref.ensures
    ∙ ap (λ (cs : List CommonValues). block_slots (sub_devices inside.profile.value (map common_entries cs))) c.as_slice.ensures.value
    ∙ ap (λ (q : Parameters). block_slots (sub_spots q)) is
    in
    block_shows c.args.self.now c.args.data.now c.get_at_root.new.body c.block_shown.new.body c.in-Ok.ensures.ok shown

pub returns-in-Err-clause-err : goal.returns-in-Err-clause-err
returns-in-Err-clause-err c = block_not_told c.args.self.now c.args.data.now c.in-Err.nack c.in-Err.ensures.err
