use Rattle.std.proofs.Common.{◌∙◌, sym, arith, le_of_eq}
use Rattle.std.proofs.lemmas.List.{take_all}
use Rattle.rdm_interface.proofs.Nexts.{front_size}
use Rattle.rdm_interface.proofs.answer.front_of_frame.Goals as goal

pub slice_bounds-of-end : goal.slice_bounds-of-end
slice_bounds-of-end c = front_size 257 c.args.bytes.now (omega (arith, c.if-bytes-gt-MOST_SLOTS.true))

pub of-requires : goal.of-requires
of-requires c = (omega arith, le_of_eq (sym (front_size 257 c.args.bytes.now (omega (arith, c.if-bytes-gt-MOST_SLOTS.true)))))

pub returns-else-bytes-gt-MOST_SLOTS : goal.returns-else-bytes-gt-MOST_SLOTS
returns-else-bytes-gt-MOST_SLOTS c = c.of-else-bytes-gt-MOST_SLOTS.ensures ∙ sym (take_all 257 c.args.bytes.now (omega (arith, c.if-bytes-gt-MOST_SLOTS.false)))
