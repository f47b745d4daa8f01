use Rattle.std.proofs.Common.{arith}
use Rattle.rdm_images_tests.proofs.Cutting.{rises_whole, rises_front, rises_set, bytes_of}
use Rattle.rdm_images_tests.proofs.cells.erase_front.Goals as goal

pub returns-then-area-left-clause-torn : goal.returns-then-area-left-clause-torn
returns-then-area-left-clause-torn c = rw c.copy_from_slice.ensures.after (rises_whole _ _ (bytes_of _ _ c.stays.ensures) c.requires.erased c.requires.room)

pub returns-clause-torn : goal.returns-clause-torn
returns-clause-torn c =
    rw c.copy_from_slice-2.ensures.after (rises_set _ _ _ _ (rises_front c.args.left c.args.area.now _ (bytes_of _ _ c.stays.ensures) c.requires.erased (omega (arith, c.if-area-left.false)) (omega (arith, c.if-area-left.false, c.requires.room))) (omega (arith, c.saturating_add-midst.ensures, bytes_of _ _ c.stays.ensures c.args.left)) (omega (arith, c.saturating_add-midst.type_inv)))
