use Rattle.std.proofs.Common.{true, false, w16}
use Rattle.std.proofs.lemmas.Int.{to_z-of_z}
use Rattle.rdm_words.proofs.Reports.{range_put}
use Rattle.rdm_words.proofs.data.sensors.put_range.Goals as goal

pub returns-in-true-true : goal.returns-in-true-true
returns-in-true-true c =
    range_put c.write.result true true c.args.low c.args.high _ _ _ _ (to_z-of_z w16 c.args.low c.ranges.low) (to_z-of_z w16 c.args.high c.ranges.high)
    c.in-true-true.ensures c.in-true-true.ensures' c.write.ensures.bytes

pub returns-in-true-false : goal.returns-in-true-false
returns-in-true-false c =
    range_put c.write-in-true-false.result true false c.args.low c.args.high _ _ _ _ (to_z-of_z w16 c.args.low c.ranges.low) (to_z-of_z w16 c.args.high c.ranges.high)
    c.in-true-false.ensures c.in-true-false.ensures' c.write-in-true-false.ensures.bytes

pub returns-in-false-true : goal.returns-in-false-true
returns-in-false-true c =
    range_put c.write-in-false-true.result false true c.args.low c.args.high _ _ _ _ (to_z-of_z w16 c.args.low c.ranges.low) (to_z-of_z w16 c.args.high c.ranges.high)
    c.in-false-true.ensures c.in-false-true.ensures' c.write-in-false-true.ensures.bytes
