use Rattle.std.proofs.Common.{arith}
use Rattle.rdm_images_tests.proofs.Cutting.{rises_self}
use Rattle.rdm_images_tests.proofs.cells.stays.Goals as goal

pub returns : goal.returns
returns c = rises_self c.args.area.now (λ i. omega (arith, c.type_inv.area i))
