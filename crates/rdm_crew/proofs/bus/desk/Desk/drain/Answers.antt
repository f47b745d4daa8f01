use Rattle.std.proofs.Common.{refl, ◌∙◌}
use Rattle.rdm_crew.proofs.Drawing.{suspected_before_item, suspected_before_mark, suspected_to_the_end}
use Rattle.rdm_crew.proofs.bus.desk.Desk.drain.Goals as goal

pub loop-preserved-in-Ok-Item : goal.loop-preserved-in-Ok-Item
loop-preserved-in-Ok-Item g c = (
  tt,
  tt,
  suspected_before_item c.loop.self _ c.in-Ok-Item.field-0 c.loop.invariant.2 refl refl c.in-Ok-Item.ensures.answer.0 c.in-Ok-Item.field-0-0 c.in-Ok-Item.field-0-1 c.in-Ok-Item.field-0-2 c.in-Ok-Item.field-0-is,
  c.loop.invariant.3,
  (c.loop.invariant.4.0, (c.take.ensures.same.0 ∙ c.loop.invariant.4.1.0, c.take.ensures.same.1 ∙ c.loop.invariant.4.1.1)),
)

pub loop-preserved-in-Ok-Mark : goal.loop-preserved-in-Ok-Mark
loop-preserved-in-Ok-Mark g c = (
  tt,
  tt,
  suspected_before_mark c.loop.self _ c.in-Ok-Mark.field-0 c.loop.invariant.2 refl refl c.in-Ok-Mark.ensures.answer.0 c.in-Ok-Mark.field-0-0 c.in-Ok-Mark.field-0-is,
  c.loop.invariant.3,
  (c.loop.invariant.4.0, (c.take.ensures.same.0 ∙ c.loop.invariant.4.1.0, c.take.ensures.same.1 ∙ c.loop.invariant.4.1.1)),
)

pub returns-in-Ok-Closed-clause-suspect : goal.returns-in-Ok-Closed-clause-suspect
returns-in-Ok-Closed-clause-suspect g c =
    suspected_to_the_end c.loop.self _ c.in-Ok-Closed.field-0 c.loop.invariant.2 refl refl c.in-Ok-Closed.ensures.answer.0 c.in-Ok-Closed.field-0-is c.in-Ok-Closed.ensures.answer.1
