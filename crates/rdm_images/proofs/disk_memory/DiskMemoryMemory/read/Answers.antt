use Rattle.std.proofs.Common.{List, ℕ, ap}
use Rattle.rdm_images.specs.Disks.{areas_in}
use Rattle.rdm_images.proofs.Erasing.{on_ok}
use Rattle.rdm_images.proofs.Placing.{area_is_read}
use Rattle.rdm_images.proofs.disk_memory.DiskMemoryMemory.read.Goals as goal

pub returns-clause-bytes : goal.returns-clause-bytes
returns-clause-bytes g c = on_ok c.read_at.result (λ read. area_is_read c.args.side _ _ _ _ c.place.ensures c.requires read) c.read_at.ensures.read

pub returns-clause-same : goal.returns-clause-same
returns-clause-same g c = λ s. ap (λ (disk : List ℕ). areas_in disk s) c.read_at.ensures.same
