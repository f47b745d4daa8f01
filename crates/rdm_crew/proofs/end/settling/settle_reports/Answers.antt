use Rattle.std.proofs.Common.{◌≡◌, List, [], ◌∷◌, ◌++◌, ap, sym, subst, ◌∙◌, arith}
use Rattle.rdm_responder.specs.declared.report.Report.{Report}
use Rattle.rdm_lane.specs.Ends.{PostState, AreEnds}
use Rattle.rdm_lane.specs.Lane.{LaneLaw}
use Rattle.rdm_lane.proofs.TheEnds.{two_ends}
use Rattle.rdm_crew.proofs.Ending.{settled_of_two}
use Rattle.rdm_crew.proofs.end.settling.settle_reports.Goals as goal

pub settle_up-requires-after_bounds : goal.settle_up-requires-after_bounds
settle_up-requires-after_bounds g c κs within =
    let both : c.push_reserved-2.new.self.items ≡ c.args.first ∷ c.args.second ∷ [] =
    c.push_reserved-2.ensures.items ∙ ap (λ (l : List (PostState Report)). l ++ c.args.second ∷ []) (c.push_reserved.ensures.items ∙ ap (λ (l : List (PostState Report)). l ++ c.args.first ∷ []) c.into_posts-posts.ensures.items) in (
      omega arith,
      subst (AreEnds c.args.reports) (sym both)
          (two_ends c.args.reports c.args.first c.args.second c.requires.first_lane c.requires.second_lane c.requires.first_producer c.requires.second_producer c.requires.posts),
    )

pub returns-clause-sent : goal.returns-clause-sent
returns-clause-sent g c =
    let both : c.push_reserved-2.new.self.items ≡ c.args.first ∷ c.args.second ∷ [] =
    c.push_reserved-2.ensures.items ∙ ap (λ (l : List (PostState Report)). l ++ c.args.second ∷ []) (c.push_reserved.ensures.items ∙ ap (λ (l : List (PostState Report)). l ++ c.args.first ∷ []) c.into_posts-posts.ensures.items) in
    settled_of_two c.args.reports c.args.first c.args.second _ _ _ c.requires c.in-Ok.ensures.law c.in-Ok.ensures.lists.0 c.in-Ok.ensures.lists.1 both

pub returns-clause-law : goal.returns-clause-law
returns-clause-law g c = subst (λ posts. LaneLaw posts c.in-Ok.settled.taken c.in-Ok.settled.posted) c.requires.posts c.in-Ok.ensures.law
