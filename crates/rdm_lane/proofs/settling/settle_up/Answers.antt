use Rattle.std.proofs.Common.{◌≡◌, ◌<◌, [], ◌∷◌, ◌++◌, length, rules, sym, ◌∙◌, ap, append_assoc, subst}
use Rattle.crossbeam_queue.specs.Passes.{view}
use Rattle.rdm_lane.specs.Settling.{posted_in}
use Rattle.rdm_lane.proofs.Settles.{Keeps, all_done, of_lane, keeps_more, settled_law, settled_others}
use Rattle.rdm_lane.proofs.Steps.{takes_in, learns}
use Rattle.rdm_lane.proofs.settling.settle_up.Goals as goal

pub absorb-requires-clause-queue : goal.absorb-requires-clause-queue
absorb-requires-clause-queue g c =
    let parts : c.args.posts.items ≡ c.loop-post.yielded ++ c.in-Some.post ∷ c.next.new.self.rest.items = c.loop-post.invariant.3 ∙ ap (λ l. c.loop-post.yielded ++ l) c.in-Some.ensures.steps.0 in
    let lane = of_lane c.args.take c.args.posts.items c.loop-post.yielded c.next.new.self.rest.items c.in-Some.post c.requires parts in
    rw c.deref.ensures (
      c.loop-post.invariant.0,
      (c.into_parts-theirs.ensures.lane.0 ∙ lane ∙ sym c.loop-post.invariant.1 ∙ c.loop-post.invariant.0.0, c.into_parts-theirs.ensures.lane.1),
    )

pub absorb-requires-clause-rule : goal.absorb-requires-clause-rule
absorb-requires-clause-rule g c =
    takes_in c.loop-post.pass.id c.args.take.posts c.into_parts-theirs.result.0.id c.in-Some.post.producer c.args.take.taken _ c.loop-post.invariant.2.0 _ _ c.loop-post.invariant.2.1 c.into_parts-theirs.ensures.known

pub loop-post-preserved-in-Some : goal.loop-post-preserved-in-Some
loop-post-preserved-in-Some g c =
    let parts : c.args.posts.items ≡ c.loop-post.yielded ++ c.in-Some.post ∷ c.next.new.self.rest.items = c.loop-post.invariant.3 ∙ ap (λ l. c.loop-post.yielded ++ l) c.in-Some.ensures.steps.0 in
    let within : c.into_parts-theirs.result.1 < length c.loop-post.lists = search rules in (
      search rules,
      c.absorb.ensures.queue.0 ∙ c.loop-post.invariant.1,
      keeps_more c.args.take.posts c.args.take.taken c.args.posts.items c.loop-post.yielded c.next.new.self.rest.items c.in-Some.post _ _ _ c.loop-post.lists c.into_parts-theirs.result.1 c.into_parts-theirs.result.2 c.requires.1 parts c.loop-post.invariant.2 c.into_parts-theirs.ensures.known c.absorb.ensures.rule c.into_parts-theirs.ensures.producer within c.into_parts-theirs.ensures.items,
      parts ∙ sym (append_assoc c.loop-post.yielded (c.in-Some.post ∷ []) c.next.new.self.rest.items),
    )

pub loop-post-preserved : goal.loop-post-preserved
loop-post-preserved g c =
    let parts : c.args.posts.items ≡ c.loop-post.yielded ++ c.in-Some.post ∷ c.next.new.self.rest.items = c.loop-post.invariant.3 ∙ ap (λ l. c.loop-post.yielded ++ l) c.in-Some.ensures.steps.0 in
    let within : c.into_parts-theirs.result.1 < length c.loop-post.lists = search rules in (
      search rules,
      c.absorb.ensures.queue.0 ∙ c.loop-post.invariant.1,
      keeps_more c.args.take.posts c.args.take.taken c.args.posts.items c.loop-post.yielded c.next.new.self.rest.items c.in-Some.post _ _ _ c.loop-post.lists c.into_parts-theirs.result.1 c.into_parts-theirs.result.2 c.requires.1 parts c.loop-post.invariant.2 c.into_parts-theirs.ensures.known c.absorb.ensures.rule c.into_parts-theirs.ensures.producer within c.into_parts-theirs.ensures.items,
      parts ∙ sym (append_assoc c.loop-post.yielded (c.in-Some.post ∷ []) c.next.new.self.rest.items),
    )

pub learn_as-requires-clause-rule : goal.learn_as-requires-clause-rule
learn_as-requires-clause-rule g c = learns c.loop-post.pass.id c.args.take.posts c.args.take.taken c.loop-post.invariant.2.0 _ c.loop-post.invariant.2.1

pub returns-clause-law : goal.returns-clause-law
returns-clause-law g c =
    let whole = all_done c.args.posts.items c.loop-post.yielded c.loop-post.post-iterator.rest.items c.loop-post.post-iterator.rest.len c.loop-post.invariant.3 (search rules) c.in-None.ensures.steps.0 in
    let keeps = subst (λ done. Keeps c.args.take.posts c.args.take.taken done (view c.loop-post.pass) (posted_in c.loop-post.lists)) whole c.loop-post.invariant.2 in
    rw c.into_parts-line.ensures.taken (settled_law c.args.take c.args.posts.items _ (posted_in c.loop-post.lists) c.requires keeps c.learn_as.ensures.rule.1)

pub returns-clause-others : goal.returns-clause-others
returns-clause-others g c =
    rw c.into_parts-line.ensures.taken (settled_others c.args.take c.loop-post.yielded _ (posted_in c.loop-post.lists) c.loop-post.invariant.2 c.learn_as.ensures.rule.1)
