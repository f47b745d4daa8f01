use Rattle.rdm_device.proofs.BlockLaws.{block_is_told}
use Rattle.rdm_device.proofs.device.blocks.moved_block_is_told.Goals as goal

pub returns : goal.returns
returns c = block_is_told
