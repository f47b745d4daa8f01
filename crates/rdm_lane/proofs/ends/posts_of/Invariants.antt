use Rattle.std.proofs.Common.{[], ◌≡◌}
use Rattle.std.specs.Arc.{arc_value}
use Rattle.crossbeam_queue.specs.Passes.{view, IsPassOf}
use Rattle.rdm_lane.specs.Ends.{new_posts}
use Rattle.rdm_lane.specs.Rule.{taker}
use Rattle.rdm_lane.proofs.ends.posts_of.Given as goal

abbrev pub invariant-loop-producer : goal.invariant-loop-producer
invariant-loop-producer g l = IsPassOf (arc_value l.line) l.pass × (view l.pass ≡ taker l.producer [] []) × (l.made.items ≡ new_posts l.pass.table_id l.fn.limit l.producer)
