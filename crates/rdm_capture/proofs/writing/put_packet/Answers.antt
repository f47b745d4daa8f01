use Rattle.std.proofs.Common.{◌+◌, length, arith}
use Rattle.rdm_capture.proofs.Written.{pieces_are}
use Rattle.rdm_capture.proofs.writing.put_packet.Goals as goal

pub returns : goal.returns
returns c =
    let whole = pieces_are c.args.out.now.items (record { time = c.args.time; direction = c.args.direction; message = c.args.message.now })
    (56 + c.padded-most.result) (12 + length c.args.message.now) (omega (arith, c.padded-most.ensures)) (omega arith) in
    cc (whole, c.in_ok-extend_from_slice.ensures.items, c.in_ok-extend_from_slice-2.ensures.items, c.in_ok-extend_from_slice-3.ensures.items, c.in_ok-extend_from_slice-4.ensures.items, c.head.ensures, c.zeros.ensures, c.tail.ensures, c.padded-most.ensures)
