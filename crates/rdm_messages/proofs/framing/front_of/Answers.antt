use Rattle.std.proofs.Common.{◌≡◌, length, subst, sym, arith, rules}
use Rattle.rdm_messages.specs.Framing.{IsUnfinished}
use Rattle.rdm_messages.proofs.Frames.{unfinished_none, unfinished_head, none_of}
use Rattle.rdm_messages.proofs.framing.front_of.Goals as goal

pub returns-then-is_empty : goal.returns-then-is_empty
returns-then-is_empty c =
    let none : length c.args.bytes.now ≡ 0 = search rules in
    subst IsUnfinished (sym (none_of c.args.bytes.now none)) unfinished_none

pub returns-then-bytes-lt-HEAD_BYTES : goal.returns-then-bytes-lt-HEAD_BYTES
returns-then-bytes-lt-HEAD_BYTES c = unfinished_head c.args.bytes.now (λ i. omega (arith, c.type_inv.bytes i)) c.if-bytes-ne-START.false c.if-bytes-lt-HEAD_BYTES.true
