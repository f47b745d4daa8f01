use Rattle.std.proofs.Common.{Err, ap, refl}
use Rattle.rdm_crew.proofs.Drawing.{arrives, marked, suspected}
use Rattle.rdm_crew.proofs.bus.desk.Desk.draw.Goals as goal

pub returns-in-Ok-clause-drawn : goal.returns-in-Ok-clause-drawn
returns-in-Ok-clause-drawn g c =
    arrives c.args.self.now _ c.in-Ok-Item.field-0 c.requires refl c.in-Ok-Item.ensures.answer.0 c.in-Ok-Item.field-0-0 c.in-Ok-Item.field-0-1 c.in-Ok-Item.report c.in-Ok.ensures.event.0 c.in-Ok-Item.field-0-is c.in-Ok-Item.ensures.answer.1 c.in-Ok.ensures.event.1 c.in-Ok.ensures.event.2 c.in-Ok.ensures.trace

pub returns-in-Ok-Mark-clause-drawn : goal.returns-in-Ok-Mark-clause-drawn
returns-in-Ok-Mark-clause-drawn g c =
    (marked c.args.self.now _ c.in-Ok-Mark.field-0 c.requires refl c.in-Ok-Mark.ensures.answer.0 c.in-Ok-Mark.field-0-0 c.in-Ok-Mark.field-0-is refl, refl)

pub returns-in-Err-Astray-clause-drawn : goal.returns-in-Err-Astray-clause-drawn
returns-in-Err-Astray-clause-drawn g c =
    let still = c.in-Err-Astray.ensures.err in
    (suspected c.args.self.now _ c.in-Ok-Item.field-0 c.requires refl c.in-Ok-Item.ensures.answer.0 c.in-Ok-Item.field-0-0 c.in-Ok-Item.field-0-1 c.in-Ok-Item.report c.in-Ok-Item.field-0-is c.in-Ok-Item.ensures.answer.1 still (c.in-Err-Astray.ensures.astray (ap Err c.in-Err-Astray.field-0-is)), still)
