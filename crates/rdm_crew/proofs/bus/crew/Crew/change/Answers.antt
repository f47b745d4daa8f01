use Rattle.std.proofs.Common.{refl, ◌∷◌, ◌++◌, []}
use Rattle.rdm_bus.specs.declared.event.Step.TheVariants.{Change}
use Rattle.rdm_crew.specs.Desks.{began}
use Rattle.rdm_crew.proofs.Playing.{changed_tied}
use Rattle.rdm_crew.proofs.bus.crew.Crew.change.Goals as goal

pub returns-in-Ok-clause-played : goal.returns-in-Ok-clause-played
returns-in-Ok-clause-played c =
    let before = c.requires.tied.drawn.run in
    let at = began c.args.self.now.desk in
    changed_tied c.args.self.now _ c.args.change c.in-Ok.ensures.event.0 c.requires.tied
    (refl, refl, c.in-Ok.ensures.event.1, c.in-Ok.ensures.event.2 at before.0 before.1, (before.0 ++ Change c.args.change ∷ [], c.in-Ok.ensures.trace at before.0 before.1)) refl refl
