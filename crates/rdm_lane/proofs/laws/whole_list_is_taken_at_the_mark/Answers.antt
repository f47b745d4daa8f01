use Rattle.std.proofs.Common.{[], slice_index_or}
use Rattle.rdm_lane.proofs.ThreeSentences.{whole_at_its_mark}
use Rattle.rdm_lane.proofs.laws.whole_list_is_taken_at_the_mark.Goals as goal

pub returns : goal.returns
returns g c posts taken posted law p within = whole_at_its_mark p taken (slice_index_or posted p []) (law p within)
