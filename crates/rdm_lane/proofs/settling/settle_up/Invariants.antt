use Rattle.std.proofs.Common.{◌≡◌, ◌++◌}
use Rattle.std.specs.Arc.{arc_value}
use Rattle.crossbeam_queue.specs.Passes.{view, IsPassOf}
use Rattle.rdm_lane.specs.Settling.{posted_in}
use Rattle.rdm_lane.proofs.Settles.{Keeps}
use Rattle.rdm_lane.proofs.settling.settle_up.Given as goal

-- the lists of the posts so far were taken in, and stand in their places
abbrev pub invariant-loop-post : goal.invariant-loop-post
invariant-loop-post g l =
    IsPassOf (arc_value l.line) l.pass × (l.pass.table_id ≡ l.fn.take.lane) × Keeps l.fn.take.posts l.fn.take.taken l.yielded (view l.pass) (posted_in l.lists) × (l.fn.posts.items ≡ l.yielded ++ l.post-iterator.rest.items)
