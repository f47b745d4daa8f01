use Rattle.std.proofs.Common.{◌-◌, length, take, drop, arith}
use Rattle.rdm_messages.proofs.Frames.{tail_of, front_unfinished, front_stray, front_whole}
use Rattle.rdm_messages.proofs.framing.front_with_head.Goals as goal

pub returns-then-tail-size : goal.returns-then-tail-size
returns-then-tail-size c =
    front_unfinished c.args.bytes.now (take (length c.args.bytes.now - 4) (drop 4 c.args.bytes.now)) c.from.result c.from-2.result
    c.requires.head c.requires.start (tail_of c.args.bytes.now) c.from.ensures c.from-2.ensures
    (omega (arith, c.from.ensures, c.type_inv.bytes 2)) (omega (arith, c.if-size-gt-MOST_BODY.false)) (omega (arith, c.if-tail-size.true))

pub returns-then-tail-size-2 : goal.returns-then-tail-size-2
returns-then-tail-size-2 c = (
  omega (arith, c.requires.head),
  front_stray c.args.bytes.now (take (length c.args.bytes.now - 4) (drop 4 c.args.bytes.now)) c.from.result c.from-2.result
      c.requires.head c.requires.start (tail_of c.args.bytes.now) c.from.ensures c.from-2.ensures
      (omega (arith, c.if-tail-size.false)) c.if-tail-size-2.true,
)

pub returns : goal.returns
returns c =
    front_whole c.args.bytes.now (take (length c.args.bytes.now - 4) (drop 4 c.args.bytes.now)) c.from.result c.from-2.result
    c.requires.head c.requires.start (tail_of c.args.bytes.now) c.from.ensures c.from-2.ensures
    (omega (arith, c.from.ensures, c.type_inv.bytes 2)) (omega (arith, c.if-size-gt-MOST_BODY.false)) (omega (arith, c.if-tail-size.false)) c.if-tail-size-2.false
