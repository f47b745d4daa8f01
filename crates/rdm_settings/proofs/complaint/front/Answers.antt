use Rattle.std.proofs.Common.{arith, sym}
use Rattle.std.proofs.lemmas.List.{length-take, take_all}
use Rattle.rdm_settings.proofs.complaint.front.Goals as goal

pub slice_bounds-result-end : goal.slice_bounds-result-end
slice_bounds-result-end c = omega (arith, length-take 255 c.args.word.now)

pub returns-then-word-gt-MOST_BYTES-clause-within : goal.returns-then-word-gt-MOST_BYTES-clause-within
returns-then-word-gt-MOST_BYTES-clause-within c = omega (arith, length-take 255 c.args.word.now)

pub returns-else-word-gt-MOST_BYTES-clause-front : goal.returns-else-word-gt-MOST_BYTES-clause-front
returns-else-word-gt-MOST_BYTES-clause-front c = sym (take_all 255 c.args.word.now (omega arith))
