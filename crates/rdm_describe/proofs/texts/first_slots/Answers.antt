use Rattle.std.proofs.Common.{arith, sym, take_all, length-take}
use Rattle.rdm_describe.proofs.texts.first_slots.Goals as goal

pub slice_bounds-result-end : goal.slice_bounds-result-end
slice_bounds-result-end c = omega (arith, length-take 32 c.args.slots.now)

pub returns-then-slots-le-MOST_TEXT-clause-value : goal.returns-then-slots-le-MOST_TEXT-clause-value
returns-then-slots-le-MOST_TEXT-clause-value c = sym (take_all 32 c.args.slots.now (omega arith))

pub returns-else-slots-le-MOST_TEXT-clause-few : goal.returns-else-slots-le-MOST_TEXT-clause-few
returns-else-slots-le-MOST_TEXT-clause-few c = omega (arith, length-take 32 c.args.slots.now)
