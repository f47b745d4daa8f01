use Rattle.std.proofs.Common.{[]}
use Rattle.rdm_lane.proofs.Steps.{makes_post}
use Rattle.rdm_lane.proofs.ends.posts_of.Goals as goal

pub another-theirs-requires-clause-rule : goal.another-theirs-requires-clause-rule
another-theirs-requires-clause-rule g c = makes_post c.loop-producer.pass.id c.loop-producer.producer [] [] _ c.loop-producer.invariant.1
