use Rattle.std.proofs.Common.{arith, replicate}
use Rattle.rdm_images.proofs.Erasing.{on_ok}
use Rattle.rdm_images.proofs.Placing.{all_erased, replicate_length, area_is_erased, area_is_raised, other_is_same}
use Rattle.rdm_images.proofs.disk_memory.DiskMemoryMemory.erase.Goals as goal

pub returns-clause-erased : goal.returns-clause-erased
returns-clause-erased g c =
    on_ok c.put_at.result (λ put. area_is_erased c.args.side _ (replicate 36864 255) _ _ c.place.ensures c.put_at.ensures.old (replicate_length 36864 255) (all_erased 36864) put) c.put_at.ensures.put

pub returns-clause-torn : goal.returns-clause-torn
returns-clause-torn g c =
    area_is_raised c.args.side _ (replicate 36864 255) _ _ c.place.ensures c.put_at.ensures.old c.put_at.ensures.new (replicate_length 36864 255) (all_erased 36864) c.put_at.ensures.torn

pub returns-clause-same : goal.returns-clause-same
returns-clause-same g c =
    other_is_same c.args.side _ (replicate 36864 255) _ _ c.place.ensures c.put_at.ensures.old c.put_at.ensures.new (omega (arith, replicate_length 36864 255)) c.put_at.ensures.torn
