use Rattle.std.proofs.Common.{rules}
use Rattle.rdm_commands.proofs.Plates.{holds_text}
use Rattle.rdm_commands.proofs.panel.Plate.new.Goals as goal

pub invariant_of-result : goal.invariant_of-result
invariant_of-result c = rw c.copy_from_slice.ensures.after (holds_text c.args.text.now (search rules))
