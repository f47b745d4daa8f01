use Rattle.std.proofs.Common.{length, drop, arith}
use Rattle.std.proofs.lemmas.List.{get_or_append_left}
use Rattle.rdm_images_tests.proofs.Cutting.{rises_all_written, rises_written, rises_set}
use Rattle.rdm_images_tests.proofs.cells.write_front.Goals as goal

pub returns-then-bytes-left-clause-torn : goal.returns-then-bytes-left-clause-torn
returns-then-bytes-left-clause-torn c =
    rw c.copy_from_slice.ensures.after (rises_all_written c.args.bytes.now c.args.area.now (λ i. omega (arith, c.type_inv.bytes i)) c.requires.erased c.requires.room)

pub returns-clause-torn : goal.returns-clause-torn
returns-clause-torn c =
    rw c.copy_from_slice-2.ensures.after (rises_set _ _ _ _ (rises_written c.args.left c.args.bytes.now c.args.area.now (λ i. omega (arith, c.type_inv.bytes i)) c.requires.erased (omega (arith, c.if-bytes-left.false)) c.requires.room)
    (omega (arith, c.saturating_add.ensures, c.type_inv.bytes c.args.left, get_or_append_left c.args.bytes.now (drop (length c.args.bytes.now) c.args.area.now) 0 c.args.left c.if-bytes-left.false)) (omega (arith, c.saturating_add.type_inv)))
