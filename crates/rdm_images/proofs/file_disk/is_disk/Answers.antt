use Rattle.std.proofs.Common.{arith}
use Rattle.rdm_images.proofs.file_disk.is_disk.Goals as goal

pub returns : goal.returns
returns c = record { size = c.requires.size; byte = λ i. omega (arith, c.type_inv.copy i) }
