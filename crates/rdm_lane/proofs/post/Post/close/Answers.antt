use Rattle.std.proofs.Common.{rules}
use Rattle.rdm_lane.proofs.Steps.{puts_mark}
use Rattle.rdm_lane.proofs.post.Post.close.Goals as goal

pub push_as-requires-clause-rule : goal.push_as-requires-clause-rule
push_as-requires-clause-rule g c = (
  puts_mark _ c.self.inside.pass.id c.self.inside.producer c.self.inside.items.items _ c.self.invariant.1 (search rules),
  λ items views h at. tt,
)
