use Rattle.std.proofs.Common.{arith}
use Rattle.rdm_words.proofs.Last.{plain_data}
use Rattle.rdm_words.proofs.Naming.{adds_plain}
use Rattle.rdm_words.proofs.frame.frame_words.put_data_lines.Goals as goal

pub returns-in-Some-clause-plain : goal.returns-in-Some-clause-plain
returns-in-Some-clause-plain c = plain_data c.args.slots.now (λ i. omega (arith, c.type_inv.slots i))

pub returns-in-None-clause-plain : goal.returns-in-None-clause-plain
returns-in-None-clause-plain c = plain_data c.args.slots.now (λ i. omega (arith, c.type_inv.slots i))

pub returns-in-None-clause-named : goal.returns-in-None-clause-named
returns-in-None-clause-named c = rw c.in-None.is (adds_plain c.put_plain_line.result c.args.slots.now _ _ c.put_plain_line.ensures.all)
