use Rattle.std.proofs.Common.{rules, [], ◌∷◌, ◌≡◌, subst}
use Rattle.rdm_lane.specs.Ends.{AreEnds}
use Rattle.rdm_lane.proofs.TheEnds.{two_ends}
use Rattle.rdm_memory_tests.proofs.turns.settles.Goals as goal

pub settle_up-requires-after_bounds : goal.settle_up-requires-after_bounds
settle_up-requires-after_bounds g c κs within =
    let ends = two_ends c.args.take c.args.zero c.args.one c.requires.lanes.0 c.requires.lanes.1 c.requires.posts.1 c.requires.posts.2 c.requires.posts.0 in
    let given : c.args.zero ∷ c.args.one ∷ [] ≡ c.push_reserved-2.new.self.items = search rules in
    (search rules, subst (AreEnds c.args.take) given ends)
