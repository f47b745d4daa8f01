use Rattle.std.proofs.Common.{[], rules, refl, subst}
use Rattle.rdm_lane.specs.Rule.{FollowsIn}
use Rattle.rdm_lane.proofs.Next.{next, taken_entry}
use Rattle.rdm_lane.proofs.Steps.{takes_next, knows_taken, knows_next}
use Rattle.rdm_lane.proofs.take.Take.take.Goals as goal

pub returns-then-is_over-clause-answer : goal.returns-then-is_over-clause-answer
returns-then-is_over-clause-answer g c = (refl, c.if-is_over.ensures.0 refl)

pub pop_as-requires-clause-rule : goal.pop_as-requires-clause-rule
pop_as-requires-clause-rule g c = (takes_next c.self.inside.pass.id c.self.inside.posts c.self.inside.taken.items [] _ c.self.invariant.1, λ items views h at. tt)

pub invariant_of-self-in-Some : goal.invariant_of-self-in-Some
invariant_of-self-in-Some g c =
    let now = knows_taken c.self.inside.posts c.self.inside.taken.items [] c.in-Some.entry _ _ c.self.invariant.1 c.in-Some.ensures.rule.0 in (
      search rules,
      rw (c.push_reserved.ensures.items, c.reserve.ensures.items) now,
      c.self.invariant.2,
      rw (c.push_reserved.ensures.items, c.reserve.ensures.items) (c.with_mark-self-inside.ensures c.self.inside.taken.items c.self.invariant.3),
    )

pub returns-in-Some-clause-answer : goal.returns-in-Some-clause-answer
returns-in-Some-clause-answer g c =
    let follows = knows_next c.self.inside.posts c.self.inside.taken.items [] c.in-Some.entry _ c.self.invariant.1 c.in-Some.ensures.rule.1 in (
      rw (c.push_reserved.ensures.items, c.reserve.ensures.items, c.in-Some.ensures.queue.0, ← c.self.view_is, taken_entry c.self.inside.posts c.self.inside.taken.items c.in-Some.entry follows) refl,
      next c.args.self.now c.in-Some.entry (subst (λ s. FollowsIn s.posts s.taken c.in-Some.entry) c.self.view_is follows),
    )
