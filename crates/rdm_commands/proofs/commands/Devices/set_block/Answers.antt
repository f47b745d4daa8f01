use Rattle.std.proofs.Common.{◌≡◌, ◌++◌, length, map, List, sym, ap, subst, ◌∙◌}
use Rattle.std.specs.Vec.{with_items}
use Rattle.std.proofs.lemmas.List.{length-map, with_items_is}
use Rattle.rdm_added.specs.declared.state.CommonValues.{CommonValues}
use Rattle.rdm_profile.specs.declared.profile.Profile.{Profile}
use Rattle.rdm_device.specs.Device.Blocks.{sub_devices, started_from}
use Rattle.rdm_added.specs.Map.{Entry}
use Rattle.rdm_added.specs.Parameters.{Parameters}
use Rattle.rdm_added.specs.Views.State.{common_entries, own_entries, added_entries}
use Rattle.rdm_device.proofs.BlockSteps.{as_many_values}
use Rattle.rdm_commands.specs.Commands.Commands.{sub_spots}
use Rattle.rdm_commands.proofs.BlockCommands.{block_moves, block_refuses}
use Rattle.rdm_commands.proofs.commands.Devices.set_block.Goals as goal

pub returns-in-Ok-clause-after : goal.returns-in-Ok-clause-after
returns-in-Ok-clause-after c =
    let inside = c.self.inside in
    let base = c.in-Ok.base in
    let now : Parameters = record { profile = inside.profile.value; root = common_entries inside.root ++ own_entries inside.own; added = added_entries inside.own.added.items; subs = map common_entries inside.subs.items } in
    let is : now ≡ c.args.self.now = c.self.view_is in
    let subs : List CommonValues = c.start_block.new.subs in
    let as_many : length subs ≡ inside.subs.len =
    sym (length-map subs common_entries)
    ∙ ap (length {A = List Entry}) c.start_block.ensures.after
    ∙ as_many_values c.deref.result.now base (map common_entries c.as_mut_slice.result.now)
    ∙ length-map c.as_mut_slice.result.now common_entries
    ∙ c.as_mut_slice.ensures.len
    in
    let new : List (List Entry) = map common_entries (with_items inside.subs subs).items in
    let moved : new ≡ started_from base (sub_spots now) =
    ap (map common_entries) (with_items_is inside.subs subs as_many)
    ∙ c.start_block.ensures.after
    ∙ ap (λ (p : Profile). started_from base (sub_devices p (map common_entries c.as_mut_slice.result.now))) c.deref.ensures
    ∙ ap (λ (cs : List CommonValues). started_from base (sub_devices inside.profile.value (map common_entries cs))) c.as_mut_slice.ensures.value
    in
    subst (λ (q : Parameters). record now { subs = new } ≡ record q { subs = started_from base (sub_spots q) }) is (ap (λ (subs : List (List Entry)). record now { subs = subs }) moved)
    ∙ sym (block_moves c.args.self.now 0 c.args.data.now base c.in-Ok.ensures.ok)

pub returns-in-Err-clause-err : goal.returns-in-Err-clause-err
returns-in-Err-clause-err c = block_refuses c.args.self.now 0 c.args.data.now c.in-Err.nack c.in-Err.ensures.err
