use Rattle.std.proofs.Common.{◌≡◌, ◌∙◌, ◌||◌, length, map, get_or, ap, List, [], arith}
use Rattle.std.proofs.lemmas.List.{length-set}
use Rattle.rdm_device.specs.Device.Blocks.{sub_devices, started_from}
use Rattle.rdm_added.specs.Map.{Entry}
use Rattle.rdm_added.specs.Spot.{sub_device, footprint}
use Rattle.rdm_added.specs.Views.State.{common_entries}
use Rattle.rdm_added.proofs.KeptValues.{joined_true, joined_false}
use Rattle.rdm_device.proofs.BlockSteps.{Before, before_of, used_at, step_done, step_rest, step_room, step_same}
use Rattle.rdm_device.proofs.device.blocks.start_block.Goals as goal
use Rattle.rdm_device.proofs.device.blocks.start_block.Goals.{then-changed, else-changed}

pub loop-i-preserved : goal.loop-i-preserved
loop-i-preserved c =
    let profile = c.args.profile.now in
    let from : List (List Entry) = map common_entries c.args.subs.now in
    let to : List (List Entry) = started_from c.args.base (sub_devices profile from) in
    let now : List (List Entry) = map common_entries c.loop-i.subs in
    let next : List (List Entry) = map common_entries c.start_at-here.new.subs in
    let used : c.slots_of-used.result ≡ footprint (sub_device profile (get_or now c.loop-i.i [])) = used_at profile c.args.subs.now c.loop-i.subs c.loop-i.i c.slots_of-used.result c.index-subs-i.result c.loop-i-test.true c.loop-i.invariant.as_many c.slots_of-used.ensures in
    let before : Before profile to from now c.loop-i.i c.loop-i.next = before_of profile c.args.base c.loop-i.next c.loop-i.i c.args.subs.now c.loop-i.subs c.loop-i-test.true c.loop-i.invariant.as_many c.loop-i.invariant.done c.loop-i.invariant.rest in
    let joined : c.if-changed.changed ≡ (c.loop-i.changed || c.start_at-here.result) = elim c.if-changed.branch [ then-changed w ↦ joined_true _ _ _ w.if-changed.true w.changed-is | else-changed w ↦ joined_false _ _ _ w.if-changed.false w.changed-is ] in
    record {
      done = step_done profile to from now next c.loop-i.i c.loop-i.next before c.start_at-here.ensures.after;
      rest = step_rest profile to from now c.loop-i.i c.loop-i.next c.slots_of-used.result before used;
      room = step_room profile to from now c.loop-i.i c.loop-i.next c.slots_of-used.result before used c.loop-i.invariant.room;
      as_many = ap (length {A = List Entry}) c.start_at-here.ensures.after ∙ length-set now c.loop-i.i _ ∙ c.loop-i.invariant.as_many;
      same = step_same profile to from now next c.loop-i.i c.loop-i.next c.loop-i.changed c.start_at-here.result c.if-changed.changed before c.start_at-here.ensures.after c.start_at-here.ensures.same c.loop-i.invariant.same joined;
    }

-- the next address is at most one behind the last
pub overflow_add-next : goal.overflow_add-next
overflow_add-next c =
    let profile = c.args.profile.now in
    let from : List (List Entry) = map common_entries c.args.subs.now in
    let to : List (List Entry) = started_from c.args.base (sub_devices profile from) in
    let now : List (List Entry) = map common_entries c.loop-i.subs in
    let used : c.slots_of-used.result ≡ footprint (sub_device profile (get_or now c.loop-i.i [])) = used_at profile c.args.subs.now c.loop-i.subs c.loop-i.i c.slots_of-used.result c.index-subs-i.result c.loop-i-test.true c.loop-i.invariant.as_many c.slots_of-used.ensures in
    let before : Before profile to from now c.loop-i.i c.loop-i.next = before_of profile c.args.base c.loop-i.next c.loop-i.i c.args.subs.now c.loop-i.subs c.loop-i-test.true c.loop-i.invariant.as_many c.loop-i.invariant.done c.loop-i.invariant.rest in
    omega (arith, step_room profile to from now c.loop-i.i c.loop-i.next c.slots_of-used.result before used c.loop-i.invariant.room)
