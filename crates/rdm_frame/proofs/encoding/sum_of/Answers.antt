use Rattle.std.proofs.Common.{length, length-drop, sum, ap, ◌∙◌, arith}
use Rattle.rdm_frame.proofs.Sums.{sum_in_parts, sum_is_small}
use Rattle.rdm_frame.proofs.encoding.sum_of.Goals as goal

-- what is added is within the sum of all slots
pub overflow_add-total : goal.overflow_add-total
overflow_add-total c =
    let part = c.sum_of_part-total.ensures ∙ ap sum c.in-Some.ensures.cases.0 in
    omega (arith, c.loop-part.invariant.whole, part, sum_in_parts 32 c.loop-part.rest.now, sum_is_small c.args.slots.now c.type_inv.slots, c.requires)

pub loop-part-preserved : goal.loop-part-preserved
loop-part-preserved c =
    let part = c.sum_of_part-total.ensures ∙ ap sum c.in-Some.ensures.cases.0 in
    record {
      whole = omega (arith, c.loop-part.invariant.whole, part, ap sum c.in-Some.ensures.cases.1, sum_in_parts 32 c.loop-part.rest.now);
      shorter = omega (arith, ap length c.in-Some.ensures.cases.1, length-drop 32 c.loop-part.rest.now, c.loop-part.invariant.shorter);
    }
