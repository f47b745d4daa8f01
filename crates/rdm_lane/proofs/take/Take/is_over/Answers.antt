use Rattle.rdm_lane.proofs.Next.{over, over_back}
use Rattle.rdm_lane.proofs.take.Take.is_over.Goals as goal

pub returns : goal.returns
returns g c =
    rw (← c.self.view_is) (
      λ set. over c.self.inside.posts c.self.inside.taken.items c.self.inside.marks c.self.invariant.2 c.self.invariant.3 (c.all_marked.ensures.0 set),
      λ done. c.all_marked.ensures.1 (over_back c.self.inside.posts c.self.inside.taken.items c.self.inside.marks c.self.invariant.2 c.self.invariant.3 done),
    )
