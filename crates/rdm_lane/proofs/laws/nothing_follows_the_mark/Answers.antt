use Rattle.std.proofs.Common.{[], slice_index_or}
use Rattle.rdm_lane.proofs.ThreeSentences.{ends_at_its_mark}
use Rattle.rdm_lane.proofs.laws.nothing_follows_the_mark.Goals as goal

pub returns : goal.returns
returns g c posts taken posted law p within = ends_at_its_mark p taken (slice_index_or posted p []) (law p within)
