use Rattle.std.proofs.Common.{arith, ◌∙◌}
use Rattle.rdm_addresses.proofs.Rooms.{list_put, next_put, room_left}
use Rattle.rdm_addresses.proofs.proposing.assignments.Goals as goal

pub overflow_cast-next : goal.overflow_cast-next
overflow_cast-next c =
    omega (arith, c.loop-device.invariant.next, room_left c.args.from c.args.gap c.args.devices.now c.loop-device.device-index c.loop-device-test.true c.requires)

pub overflow_add-next-in-loop-device : goal.overflow_add-next-in-loop-device
overflow_add-next-in-loop-device c =
    omega (
      arith,
      c.loop-device.invariant.next,
      c.ranges.gap.fits,
      c.from.ensures,
      c.from-in-loop-device.ensures,
      c.from.type_inv,
      room_left c.args.from c.args.gap c.args.devices.now c.loop-device.device-index c.loop-device-test.true c.requires,
    )

pub loop-device-preserved : goal.loop-device-preserved
loop-device-preserved c = record {
  list = c.in_ok-push.ensures.items
      ∙ list_put c.args.from c.args.gap c.args.devices.now c.loop-device.device-index _ _ _ c.loop-device-test.true c.loop-device.invariant.list c.loop-device.invariant.next;
  next = next_put c.args.from c.args.gap c.args.devices.now c.loop-device.device-index _ _ _ _ c.loop-device-test.true c.loop-device.invariant.next c.from.ensures c.from-in-loop-device.ensures;
}
