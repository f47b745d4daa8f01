use Rattle.std.proofs.Common.{arith}
use Rattle.rdm_images.proofs.Erasing.{on_ok}
use Rattle.rdm_images.proofs.Placing.{area_is_written, area_is_torn, other_is_same}
use Rattle.rdm_images.proofs.disk_memory.DiskMemoryMemory.write.Goals as goal

pub returns-clause-written : goal.returns-clause-written
returns-clause-written g c =
    on_ok c.put_at.result (λ put. area_is_written c.args.side _ _ _ _ c.place.ensures c.put_at.ensures.old c.requires.room put) c.put_at.ensures.put

pub returns-clause-torn : goal.returns-clause-torn
returns-clause-torn g c =
    area_is_torn c.args.side _ _ _ _ c.place.ensures (λ i. omega (arith, c.type_inv.bytes i)) c.put_at.ensures.old c.put_at.ensures.new c.requires.room c.requires.erased c.put_at.ensures.torn

pub returns-clause-same : goal.returns-clause-same
returns-clause-same g c =
    other_is_same c.args.side _ _ _ _ c.place.ensures c.put_at.ensures.old c.put_at.ensures.new c.requires.room c.put_at.ensures.torn
