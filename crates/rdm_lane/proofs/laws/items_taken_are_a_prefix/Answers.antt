use Rattle.std.proofs.Common.{[], slice_index_or}
use Rattle.rdm_lane.proofs.ThreeSentences.{takes_a_prefix}
use Rattle.rdm_lane.proofs.laws.items_taken_are_a_prefix.Goals as goal

pub returns : goal.returns
returns g c posts taken posted law p within = takes_a_prefix p taken (slice_index_or posted p []) (law p within)
