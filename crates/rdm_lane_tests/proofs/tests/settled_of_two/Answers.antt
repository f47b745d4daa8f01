use Rattle.std.proofs.Common.{rules, [], ◌∷◌, ◌≡◌, subst, sym}
use Rattle.rdm_lane.specs.Ends.{AreEnds}
use Rattle.rdm_lane.proofs.TheEnds.{two_ends_turned}
use Rattle.rdm_lane_tests.proofs.tests.settled_of_two.Goals as goal

pub settle_up-requires-after_bounds : goal.settle_up-requires-after_bounds
settle_up-requires-after_bounds g c κs within =
    let ends = two_ends_turned c.args.take c.args.one c.args.zero c.requires.lanes.1 c.requires.lanes.0 c.requires.posts.2 c.requires.posts.1 c.requires.posts.0 in
    let given : c.args.one ∷ c.args.zero ∷ [] ≡ c.in_ok-posts.posts.items = search rules in
    (search rules, subst (AreEnds c.args.take) given ends)
