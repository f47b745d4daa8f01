use Rattle.std.proofs.Common.{List, [], ◌∷◌, ◌++◌, ap, ◌∙◌}
use Rattle.rdm_commands.specs.declared.panel.Change.{Change}
use Rattle.rdm_crew.proofs.Changing.{took_change, took_mark}
use Rattle.rdm_crew.proofs.bus.crew.next_change.Goals as goal

pub returns-in-Ok-Item-clause-taken : goal.returns-in-Ok-Item-clause-taken
returns-in-Ok-Item-clause-taken g c =
    took_change c.loop.changes (c.loop.invariant.3.1 ∙ c.requires) c.in-Ok-Item.field-0 c.in-Ok-Item.field-0-0 c.in-Ok-Item.field-0-1 c.in-Ok-Item.change c.take.new.self c.in-Ok-Item.field-0-is c.in-Ok-Item.ensures.answer.1 c.in-Ok-Item.ensures.answer.0
    ∙ ap (λ (l : List Change). l ++ c.in-Ok-Item.change ∷ []) c.loop.invariant.2

pub loop-preserved-in-Ok-Mark : goal.loop-preserved-in-Ok-Mark
loop-preserved-in-Ok-Mark g c = (
  tt,
  tt,
  took_mark c.loop.changes c.take.new.self c.in-Ok-Mark.field-0 c.in-Ok-Mark.field-0-0 c.in-Ok-Mark.field-0-is c.in-Ok-Mark.ensures.answer.0 ∙ c.loop.invariant.2,
  (c.take.ensures.same.0 ∙ c.loop.invariant.3.0, c.take.ensures.same.1 ∙ c.loop.invariant.3.1),
)
