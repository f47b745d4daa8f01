use Rattle.std.proofs.Common.{[], ◌∷◌, ◌++◌, ap, ◌∙◌}
use Rattle.rdm_crew.proofs.Ending.{settled_of_one}
use Rattle.rdm_crew.proofs.end.settling.settle_one.Goals as goal

pub returns : goal.returns
returns g c =
    settled_of_one c.args.take c.args.post _ _ _ c.requires c.in-Ok.ensures.law c.in-Ok.ensures.lists.0 c.in-Ok.ensures.lists.1
    (c.push_reserved.ensures.items ∙ ap (λ l. l ++ c.args.post ∷ []) c.into_posts-posts.ensures.items)
